use Rattle.gate_order.proofs.Depends.{one_cycle}
use Rattle.gate_order.proofs.order.laws.one_cycle.Goals as goal

pub returns : goal.returns
returns c = one_cycle
