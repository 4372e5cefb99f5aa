use Rattle.std.proofs.Common.{◌-◌, ◌+◌, List, All, sym, ◌∙◌, subst, arith}
use Rattle.aig_model.specs.declared.parts.Latch.{Latch}
use Rattle.unroll.specs.Building.{HasLatch}
use Rattle.unroll.proofs.Room.{next_before, first_step, latches_have_next}
use Rattle.unroll.proofs.entry.add_entry.Goals as goal

pub add_nexts-requires-clause-latches : goal.add_nexts-requires-clause-latches
add_nexts-requires-clause-latches c =
    let n = c.args.formula.now.vars in
    let circuit = c.args.circuit.now in
    let before = c.args.before in
    let earlier = before - (c.top.result + 1) in
    let later = first_step circuit c.args.step c.if-step-eq0.false in
    let next = next_before circuit c.args.step in
    subst (λ (latches : List Latch). All (HasLatch n earlier before) latches) (sym (c.as_slice.ensures ∙ c.latches.ensures))
    (latches_have_next circuit n earlier before c.is_well_formed.ensures (omega (arith, c.requires.before, c.requires.room, c.top.ensures.value)) (omega (arith, c.requires.before, c.requires.room)))
