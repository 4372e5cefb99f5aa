use Rattle.std.proofs.Common.{length}
use Rattle.sat_learn.specs.Resolving.{AreQueued}
use Rattle.sat_learn.proofs.roots.next_root.Given as goal

-- the marked ones still wait
abbrev pub invariant-loop-place : goal.invariant-loop-place
invariant-loop-place l = AreQueued l.trail.assignments l.marks l.queue l.before

abbrev pub decreases-loop-place : goal.decreases-loop-place
decreases-loop-place l = length l.queue
