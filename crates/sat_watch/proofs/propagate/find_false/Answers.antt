use Rattle.sat_watch.proofs.Extension.{watched_at_begin}
use Rattle.sat_watch.proofs.Units.{ExtendsByUnits-trans}
use Rattle.sat_watch.proofs.Walks.{below_grown}
use Rattle.sat_watch.proofs.propagate.find_false.Goals as goal

pub follow-requires-clause-watched : goal.follow-requires-clause-watched
follow-requires-clause-watched c =
    watched_at_begin c.args.clauses.now c.args.heads.now c.args.watches.now c.args.trail.now c.examine_from.new.trail c.args.begin.clause c.args.begin.literal c.is_well_formed.ensures
    c.examine_from.ensures.by_units c.requires.literal c.requires.below c.requires.old_clauses c.requires.new_clauses c.in-None.ensures.answer

pub returns-in-Some-clause-below : goal.returns-in-Some-clause-below
returns-in-Some-clause-below c =
    below_grown c.args.clauses.now c.args.heads.now c.args.watches.now c.args.trail.now c.examine_from.new.trail c.examine_from.ensures.by_units c.requires.below

pub returns-in-None-clause-by_units : goal.returns-in-None-clause-by_units
returns-in-None-clause-by_units c =
    ExtendsByUnits-trans c.args.clauses.now c.args.trail.now c.examine_from.new.trail c.follow.new.trail c.examine_from.ensures.by_units c.follow.ensures.by_units
