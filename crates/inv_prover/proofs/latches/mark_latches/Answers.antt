use Rattle.std.proofs.Common.{◌≡◌, ◌+◌, ◌-◌, length, ◌∙◌, arith}
use Rattle.inv_prover.proofs.Places.{IsLatchInside, latch_inside}
use Rattle.inv_prover.proofs.latches.mark_latches.Goals as goal

pub mark_next-more-requires-clause-lit : goal.mark_next-more-requires-clause-lit
mark_next-more-requires-clause-lit c =
    let circuit = c.args.circuit.now in
    let h : IsLatchInside (circuit.top + 1) c.get.result.now =
    latch_inside circuit c.latches-latches.result.now (c.len.result - 1 - c.loop-step.step) c.get.result.now c.is_well_formed.ensures c.latches-latches.ensures (omega arith) c.get.ensures
    in
    let size : length c.loop-step.marks ≡ circuit.top + 1 = c.loop-step.invariant.0.size ∙ c.requires in
    omega (arith, h.lit, size)

pub mark_next-more-requires-clause-next : goal.mark_next-more-requires-clause-next
mark_next-more-requires-clause-next c =
    let circuit = c.args.circuit.now in
    let h : IsLatchInside (circuit.top + 1) c.get.result.now =
    latch_inside circuit c.latches-latches.result.now (c.len.result - 1 - c.loop-step.step) c.get.result.now c.is_well_formed.ensures c.latches-latches.ensures (omega arith) c.get.ensures
    in
    let size : length c.loop-step.marks ≡ circuit.top + 1 = c.loop-step.invariant.0.size ∙ c.requires in
    omega (arith, h.next, size)
