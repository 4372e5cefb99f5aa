use Rattle.sat_trail.specs.Trail.{lits}
use Rattle.sat_watch.specs.Watching.{AreFalseBut}
use Rattle.sat_watch.proofs.visit.find_between.Given as goal

-- the literals so far are false, but for the other one
abbrev pub invariant-loop-place : goal.invariant-loop-place
invariant-loop-place l = AreFalseBut (lits l.trail.assignments) l.clause l.other l.from l.place
