use Rattle.std.proofs.Common.{Err, Ok, sym, ap, ◌∙◌, subst, inl}
use Rattle.std.proofs.lemmas.Result.{err_from_is_err_and}
use Rattle.aig_model.specs.declared.parts.Parts.{Parts}
use Rattle.gate_order.specs.GateOrder.{DefineApart, IsGateOrder}
use Rattle.gate_order.specs.OrderLaws.{IsUnordered}
use Rattle.gate_order.specs.StandingGates.{StandInOrder}
use Rattle.gate_order.specs.declared.order.fault.OrderFault.{OrderFault}
use Rattle.aig_ascii.proofs.RightParts.{text-unordered, text-apart}
use Rattle.aig_ascii.proofs.CircuitsAndFaults.{fault-unmet, no-circuit, this-fault, circuit-spelled, standing-spelled, one-circuit, no-fault, cycle-side, order-fault, order-no-circuit, order-this-fault}
use Rattle.aig_ascii.proofs.reading.read_aag.Goals as goal

pub returns-in_err-parts-clause-fault : goal.returns-in_err-parts-clause-fault
returns-in_err-parts-clause-fault c =
    let p = err_from_is_err_and c.from_residual.result c.from_residual.ensures.1 in
    rw (p.1, p.2) (fault-unmet c.args.bytes.now c.in_err-parts.field-0.0 c.in_err-parts.ensures.demands)

pub returns-in_err-parts-clause-every_circuit : goal.returns-in_err-parts-clause-every_circuit
returns-in_err-parts-clause-every_circuit c d s =
    let p = err_from_is_err_and c.from_residual.result c.from_residual.ensures.1 in
    rw (p.1, p.2) (no-circuit c.args.bytes.now c.in_err-parts.field-0.0 d c.in_err-parts.ensures.demands s)

pub returns-in_err-parts-clause-every_fault : goal.returns-in_err-parts-clause-every_fault
returns-in_err-parts-clause-every_fault c at kind f =
    let p = err_from_is_err_and c.from_residual.result c.from_residual.ensures.1 in
    rw (p.1, p.2) (this-fault c.args.bytes.now c.in_err-parts.field-0.0 at kind c.in_err-parts.ensures.demands f)

pub standing-requires-clause-unordered : goal.standing-requires-clause-unordered
standing-requires-clause-unordered c =
    subst (λ (x : Parts). IsUnordered x) (sym c.in_ok-parts.ensures.parts) (text-unordered c.args.bytes.now c.in_ok-parts.ensures.few c.in_ok-parts.ensures.demands)

pub standing-requires-clause-stand : goal.standing-requires-clause-stand
standing-requires-clause-stand c = subst StandInOrder c.as_slice.ensures (c.stand_in_order.ensures.0 c.if-stand_in_order.true)

pub returns-then-stand_in_order-clause-circuit : goal.returns-then-stand_in_order-clause-circuit
returns-then-stand_in_order-clause-circuit c =
    let stand = subst StandInOrder c.as_slice.ensures (c.stand_in_order.ensures.0 c.if-stand_in_order.true) in
    standing-spelled c.args.bytes.now c.in_ok-parts.parts c.standing.result c.in_ok-parts.ensures.demands c.in_ok-parts.ensures.parts stand c.standing.ensures

pub returns-then-stand_in_order-clause-every_circuit : goal.returns-then-stand_in_order-clause-every_circuit
returns-then-stand_in_order-clause-every_circuit c d s =
    let stand = subst StandInOrder c.as_slice.ensures (c.stand_in_order.ensures.0 c.if-stand_in_order.true) in
    let own = standing-spelled c.args.bytes.now c.in_ok-parts.parts c.standing.result c.in_ok-parts.ensures.demands c.in_ok-parts.ensures.parts stand c.standing.ensures in
    inl (ap (λ (x : Parts). Ok x) (one-circuit c.args.bytes.now c.standing.result d (text-apart c.args.bytes.now c.in_ok-parts.ensures.demands) own s))

pub returns-then-stand_in_order-clause-every_fault : goal.returns-then-stand_in_order-clause-every_fault
returns-then-stand_in_order-clause-every_fault c at kind f =
    let stand = subst StandInOrder c.as_slice.ensures (c.stand_in_order.ensures.0 c.if-stand_in_order.true) in
    let own = standing-spelled c.args.bytes.now c.in_ok-parts.parts c.standing.result c.in_ok-parts.ensures.demands c.in_ok-parts.ensures.parts stand c.standing.ensures in
    absurd (no-fault c.args.bytes.now c.standing.result at kind own f)

pub order_gates-requires : goal.order_gates-requires
order_gates-requires c = subst (λ (x : Parts). DefineApart x.gates) (sym c.in_ok-parts.ensures.parts) (text-apart c.args.bytes.now c.in_ok-parts.ensures.demands)

pub ordered-requires-clause-unordered : goal.ordered-requires-clause-unordered
ordered-requires-clause-unordered c =
    subst (λ (x : Parts). IsUnordered x) (sym c.in_ok-parts.ensures.parts) (text-unordered c.args.bytes.now c.in_ok-parts.ensures.few c.in_ok-parts.ensures.demands)

pub order_fault-requires-clause-sized : goal.order_fault-requires-clause-sized
order_fault-requires-clause-sized c =
    (subst (λ (x : Parts). IsUnordered x) (sym c.in_ok-parts.ensures.parts) (text-unordered c.args.bytes.now c.in_ok-parts.ensures.few c.in_ok-parts.ensures.demands)).sized

pub order_fault-requires-clause-exists : goal.order_fault-requires-clause-exists
order_fault-requires-clause-exists c lhs e = cycle-side c.in_ok-parts.parts.gates lhs ((c.in-Err.ensures.cycle lhs).only (ap (λ (x : OrderFault). Err x) e))

pub returns-in-Ok-clause-circuit : goal.returns-in-Ok-clause-circuit
returns-in-Ok-clause-circuit c =
    let is = c.in_ok-parts.ensures.parts in
    circuit-spelled c.args.bytes.now c.in-Ok.gates c.ordered.result c.in_ok-parts.ensures.demands (subst (λ (x : Parts). IsGateOrder x.gates c.in-Ok.gates) is c.in-Ok.ensures.order)
    (c.ordered.ensures ∙ ap (λ (x : Parts). record x { gates = c.in-Ok.gates }) is)

pub returns-in-Ok-clause-every_circuit : goal.returns-in-Ok-clause-every_circuit
returns-in-Ok-clause-every_circuit c d s =
    let is = c.in_ok-parts.ensures.parts in
    let own = circuit-spelled c.args.bytes.now c.in-Ok.gates c.ordered.result c.in_ok-parts.ensures.demands (subst (λ (x : Parts). IsGateOrder x.gates c.in-Ok.gates) is c.in-Ok.ensures.order)
    (c.ordered.ensures ∙ ap (λ (x : Parts). record x { gates = c.in-Ok.gates }) is) in
    inl (ap (λ (x : Parts). Ok x) (one-circuit c.args.bytes.now c.ordered.result d (text-apart c.args.bytes.now c.in_ok-parts.ensures.demands) own s))

pub returns-in-Ok-clause-every_fault : goal.returns-in-Ok-clause-every_fault
returns-in-Ok-clause-every_fault c at kind f =
    let is = c.in_ok-parts.ensures.parts in
    let own = circuit-spelled c.args.bytes.now c.in-Ok.gates c.ordered.result c.in_ok-parts.ensures.demands (subst (λ (x : Parts). IsGateOrder x.gates c.in-Ok.gates) is c.in-Ok.ensures.order)
    (c.ordered.ensures ∙ ap (λ (x : Parts). record x { gates = c.in-Ok.gates }) is) in
    absurd (no-fault c.args.bytes.now c.ordered.result at kind own f)

pub returns-in-Err-clause-fault : goal.returns-in-Err-clause-fault
returns-in-Err-clause-fault c =
    order-fault c.args.bytes.now c.in_ok-parts.parts c.in-Err.fault c.order_fault.result c.in_ok-parts.ensures.parts c.in_ok-parts.ensures.demands
    (λ lhs e. (c.in-Err.ensures.cycle lhs).only (ap (λ (x : OrderFault). Err x) e)) c.order_fault.ensures

pub returns-in-Err-clause-every_circuit : goal.returns-in-Err-clause-every_circuit
returns-in-Err-clause-every_circuit c d s =
    order-no-circuit c.args.bytes.now c.in_ok-parts.parts d c.in-Err.fault c.order_fault.result c.in_ok-parts.ensures.parts
    (λ lhs e. (c.in-Err.ensures.cycle lhs).only (ap (λ (x : OrderFault). Err x) e)) c.order_fault.ensures s

pub returns-in-Err-clause-every_fault : goal.returns-in-Err-clause-every_fault
returns-in-Err-clause-every_fault c at kind f =
    order-this-fault c.args.bytes.now c.in_ok-parts.parts c.in-Err.fault c.order_fault.result at kind c.in_ok-parts.ensures.parts c.in_ok-parts.ensures.demands
    (λ lhs e. (c.in-Err.ensures.cycle lhs).only (ap (λ (x : OrderFault). Err x) e)) c.order_fault.ensures f
