use Rattle.gate_order.proofs.OrderedGates.{ordered_parts}
use Rattle.gate_order.proofs.order.laws.ordered_circuit.Goals as goal

pub returns : goal.returns
returns c = ordered_parts
