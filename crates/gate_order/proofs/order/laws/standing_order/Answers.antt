use Rattle.gate_order.proofs.Standing.{own_order}
use Rattle.gate_order.proofs.order.laws.standing_order.Goals as goal

pub returns : goal.returns
returns c = own_order
