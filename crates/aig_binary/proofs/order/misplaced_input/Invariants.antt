use Rattle.std.proofs.Common.{◌≡◌, take}
use Rattle.aig_binary.specs.BinaryOrder.{lits_from}
use Rattle.aig_binary.proofs.order.misplaced_input.Given as goal

abbrev pub invariant-loop-place : goal.invariant-loop-place
invariant-loop-place l = take l.place l.inputs ≡ lits_from l.first l.place
