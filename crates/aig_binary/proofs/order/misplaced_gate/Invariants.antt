use Rattle.std.proofs.Common.{◌≡◌, take}
use Rattle.aig_model.specs.WellFormed.{left_sides}
use Rattle.aig_binary.specs.BinaryOrder.{lits_from}
use Rattle.aig_binary.proofs.order.misplaced_gate.Given as goal

abbrev pub invariant-loop-place : goal.invariant-loop-place
invariant-loop-place l = take l.place (left_sides l.gates) ≡ lits_from l.first l.place
