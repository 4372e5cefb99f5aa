use Rattle.std.proofs.Common.{◌≡◌}
use Rattle.aig_binary.specs.BinaryOrder.{lits_from}
use Rattle.aig_binary.proofs.reading.input_lits.Given as goal

abbrev pub invariant-loop-place : goal.invariant-loop-place
invariant-loop-place l = l.lits ≡ lits_from 1 l.place
