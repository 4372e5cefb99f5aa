use Rattle.gate_order.proofs.OrderExists.{some_order_or_cycle}
use Rattle.gate_order.proofs.order.laws.some_order_or_cycle.Goals as goal

pub returns : goal.returns
returns c = some_order_or_cycle
