use Rattle.std.proofs.Common.{◌≡◌, length}
use Rattle.prover_rows.proofs.all_steps.bits_of.Given as goal

abbrev pub invariant-loop-place : goal.invariant-loop-place
invariant-loop-place l = length l.bits ≡ l.width
