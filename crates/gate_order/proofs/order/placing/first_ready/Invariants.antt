use Rattle.gate_order.specs.PlaceOrder.{Queues}
use Rattle.gate_order.proofs.order.placing.first_ready.Given as goal

abbrev pub invariant-loop-place : goal.invariant-loop-place
invariant-loop-place l = Queues l.waits l.place l.queue
