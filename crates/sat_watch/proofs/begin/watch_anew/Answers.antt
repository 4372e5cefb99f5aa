use Rattle.std.proofs.Common.{ℤ, List, sym, ◌∙◌, subst}
use Rattle.sat_watch.specs.Kept.{Each}
use Rattle.sat_watch.specs.Watching.{IsChosen}
use Rattle.sat_watch.proofs.Start.{chosen_in_range}
use Rattle.sat_watch.proofs.begin.watch_anew.Goals as goal

pub link_from-requires-clause-in_range : goal.link_from-requires-clause-in_range
link_from-requires-clause-in_range c =
    let sizes = c.requires.sizes in
    chosen_in_range c.args.trail.now.vars c.args.clauses.now c.unlink_all.new.heads c.choose_all.new.watches c.args.trail.now.assignments
    (c.unlink_all.auto.heads ∙ sizes.heads_room) (c.choose_all.auto.watches ∙ sizes.two_each) c.requires.clauses c.choose_all.ensures

pub returns-clause-chosen : goal.returns-clause-chosen
returns-clause-chosen c =
    let P : List ℤ → Type 0 = λ ls. Each (IsChosen c.args.trail.now.assignments) c.args.clauses.now ls in
    subst P (sym c.link_from.ensures.lits) c.choose_all.ensures
