use Rattle.std.proofs.Common.{◌≡◌, length}
use Rattle.inv_prover.proofs.walk.random_row.Given as goal

abbrev pub invariant-loop-place : goal.invariant-loop-place
invariant-loop-place l = length l.row ≡ length l.circuit.inputs
