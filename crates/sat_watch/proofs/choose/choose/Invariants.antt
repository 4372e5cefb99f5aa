use Rattle.std.proofs.Common.{take}
use Rattle.sat_watch.specs.Watching.{IsChosen}
use Rattle.sat_watch.proofs.choose.choose.Given as goal

-- the choice among the literals so far
abbrev pub invariant-loop-place : goal.invariant-loop-place
invariant-loop-place l = IsChosen l.trail.assignments (take l.place l.clause) l.pair.first l.pair.second
