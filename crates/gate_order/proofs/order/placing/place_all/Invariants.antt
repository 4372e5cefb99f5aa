use Rattle.std.proofs.Common.{◌+◌, sum, length}
use Rattle.gate_order.specs.PlaceOrder.{IsPlacing}
use Rattle.gate_order.proofs.order.placing.place_all.Given as goal

abbrev pub invariant-loop-place : goal.invariant-loop-place
invariant-loop-place l = IsPlacing l.left l.right l.waits l.queue l.placed.items

abbrev pub decreases-loop-place : goal.decreases-loop-place
decreases-loop-place l = sum l.waits + length l.queue
