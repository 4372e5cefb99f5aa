use Rattle.gate_order.proofs.OrderExists.{order_exists}
use Rattle.gate_order.proofs.order.laws.order_exists.Goals as goal

pub returns : goal.returns
returns c = order_exists
