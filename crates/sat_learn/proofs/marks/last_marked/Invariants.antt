use Rattle.std.proofs.Common.{◌+◌, ◌<◌}
use Rattle.sat_learn.specs.Resolving.{AreBelow}
use Rattle.sat_learn.proofs.marks.last_marked.Given as goal

-- no literal after the place so far is marked
abbrev pub invariant-loop-at : goal.invariant-loop-at
invariant-loop-at l = record { before : l.at < l.place; below : AreBelow l.trail.assignments l.marks (l.at + 1) }

abbrev pub decreases-loop-at : goal.decreases-loop-at
decreases-loop-at l = l.at
