use Rattle.sat_watch.specs.Links.{watch_lits}
use Rattle.sat_watch.specs.Watching.{IsChosen}
use Rattle.sat_watch.proofs.Pairs.{EachBetween}
use Rattle.sat_watch.proofs.choose.choose_all.Given as goal

-- the clauses so far have their watches
abbrev pub invariant-loop-place : goal.invariant-loop-place
invariant-loop-place l = EachBetween 0 l.place (IsChosen l.trail.assignments) l.clauses (watch_lits l.watches)
