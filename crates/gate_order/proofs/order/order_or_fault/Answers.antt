use Rattle.std.proofs.Common.{subst, sym, refl}
use Rattle.gate_order.specs.GateOrder.{IsGateOrder}
use Rattle.gate_order.proofs.Standing.{own_order}
use Rattle.gate_order.proofs.order.order_or_fault.Goals as goal

pub returns-clause-order : goal.returns-clause-order
returns-clause-order c =
    let gates = c.args.gates.now in
    subst (IsGateOrder gates) (sym c.in_ok-copied.ensures) (own_order gates (c.if-not-stand_in_order.ensures.0 refl))
