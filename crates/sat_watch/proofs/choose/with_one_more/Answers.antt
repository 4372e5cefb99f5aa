use Rattle.sat_watch.proofs.Choice.{IsChosen-stays, IsChosen-second, IsChosen-first}
use Rattle.sat_watch.proofs.choose.with_one_more.Goals as goal

pub returns-then-lasts : goal.returns-then-lasts
returns-then-lasts c clause absent h =
    IsChosen-stays c.args.trail.now.assignments clause c.args.lit c.args.pair.first c.args.pair.second c.if-lasts.ensures h

pub returns-then-lasts-2 : goal.returns-then-lasts-2
returns-then-lasts-2 c clause absent h =
    IsChosen-second c.args.trail.now.assignments clause c.args.lit c.args.pair.first c.args.pair.second absent c.if-lasts.ensures c.if-lasts-2.ensures h

pub returns-else-lasts-2 : goal.returns-else-lasts-2
returns-else-lasts-2 c clause absent h =
    IsChosen-first c.args.trail.now.assignments clause c.args.lit c.args.pair.first c.args.pair.second absent c.if-lasts-2.ensures h
