use Rattle.gate_order.proofs.Depends.{order_or_cycle}
use Rattle.gate_order.proofs.order.laws.order_or_cycle.Goals as goal

pub returns : goal.returns
returns c = order_or_cycle
