use Rattle.std.proofs.Common.{◌≡◌, ◌+◌, ◌-◌, length, ◌∙◌, arith}
use Rattle.aig_eval.specs.Filling.{IsInside}
use Rattle.inv_prover.proofs.Places.{gate_inside}
use Rattle.inv_prover.proofs.latches.mark_gates.Goals as goal

pub mark_inputs-more-requires-clause-lhs : goal.mark_inputs-more-requires-clause-lhs
mark_inputs-more-requires-clause-lhs c =
    let circuit = c.args.circuit.now in
    let h : IsInside (circuit.top + 1) c.get.result.now =
    gate_inside circuit c.gates-gates.result.now (c.len.result - 1 - c.loop-step.step) c.get.result.now c.is_well_formed.ensures c.gates-gates.ensures (omega arith) c.get.ensures
    in
    let size : length c.loop-step.marks ≡ circuit.top + 1 = c.loop-step.invariant.0.size ∙ c.requires in
    omega (arith, h.lhs, size)

pub mark_inputs-more-requires-clause-left : goal.mark_inputs-more-requires-clause-left
mark_inputs-more-requires-clause-left c =
    let circuit = c.args.circuit.now in
    let h : IsInside (circuit.top + 1) c.get.result.now =
    gate_inside circuit c.gates-gates.result.now (c.len.result - 1 - c.loop-step.step) c.get.result.now c.is_well_formed.ensures c.gates-gates.ensures (omega arith) c.get.ensures
    in
    let size : length c.loop-step.marks ≡ circuit.top + 1 = c.loop-step.invariant.0.size ∙ c.requires in
    omega (arith, h.left, size)

pub mark_inputs-more-requires-clause-right : goal.mark_inputs-more-requires-clause-right
mark_inputs-more-requires-clause-right c =
    let circuit = c.args.circuit.now in
    let h : IsInside (circuit.top + 1) c.get.result.now =
    gate_inside circuit c.gates-gates.result.now (c.len.result - 1 - c.loop-step.step) c.get.result.now c.is_well_formed.ensures c.gates-gates.ensures (omega arith) c.get.ensures
    in
    let size : length c.loop-step.marks ≡ circuit.top + 1 = c.loop-step.invariant.0.size ∙ c.requires in
    omega (arith, h.right, size)
