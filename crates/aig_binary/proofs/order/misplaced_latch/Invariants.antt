use Rattle.std.proofs.Common.{◌≡◌, take}
use Rattle.aig_model.specs.WellFormed.{latch_lits}
use Rattle.aig_binary.specs.BinaryOrder.{lits_from}
use Rattle.aig_binary.proofs.order.misplaced_latch.Given as goal

abbrev pub invariant-loop-place : goal.invariant-loop-place
invariant-loop-place l = take l.place (latch_lits l.latches) ≡ lits_from l.first l.place
