use Rattle.gate_order.proofs.OrderedGates.{one_order}
use Rattle.gate_order.proofs.order.laws.one_gate_order.Goals as goal

pub returns : goal.returns
returns c = λ gates ordered other define one two. one_order gates define ordered other one two
