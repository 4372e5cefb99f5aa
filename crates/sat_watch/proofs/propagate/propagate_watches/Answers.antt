use Rattle.sat_trail.specs.Trail.{lits}
use Rattle.sat_watch.specs.Links.{watch_lits}
use Rattle.sat_watch.proofs.Watches.{quiet_watched}
use Rattle.sat_watch.proofs.propagate.propagate_watches.Goals as goal

pub returns-in-None-clause-answer : goal.returns-in-None-clause-answer
returns-in-None-clause-answer c =
    quiet_watched c.args.clauses.now (lits c.find_false.new.trail.assignments) (watch_lits c.find_false.new.watches) c.in-None.ensures.below.pairs c.in-None.ensures.answer
