use Rattle.std.proofs.Common.{◌≡◌, take, length}
use Rattle.aig_model.specs.WellFormed.{left_sides}
use Rattle.aig_model.specs.Marks.{Marks}
use Rattle.aig_model.proofs.order.mark_left_sides.Given as goal

abbrev pub invariant-loop-gate : goal.invariant-loop-gate
invariant-loop-gate l = record { size : length l.ahead ≡ length l.initial.ahead; marks : Marks l.ahead (left_sides (take l.gate-index l.gates)) }
