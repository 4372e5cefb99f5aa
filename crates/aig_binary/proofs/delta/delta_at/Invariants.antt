use Rattle.aig_binary.proofs.Deltas.{SoFar}
use Rattle.aig_binary.proofs.delta.delta_at.Given as goal

abbrev pub invariant-loop-place : goal.invariant-loop-place
invariant-loop-place l = SoFar l.bytes l.place l.weight l.value
