use Rattle.std.proofs.Common.{List, All, sym, ◌∙◌, subst, arith}
use Rattle.aig_model.specs.declared.parts.Latch.{Latch}
use Rattle.unroll.specs.Building.{HasLit}
use Rattle.unroll.proofs.Room.{latches_have_lits}
use Rattle.unroll.proofs.entry.add_start.Goals as goal

pub add_resets-requires-clause-latches : goal.add_resets-requires-clause-latches
add_resets-requires-clause-latches c =
    let n = c.args.formula.now.vars in
    subst (λ (latches : List Latch). All (λ (l : Latch). HasLit n 0 l.lit) latches) (sym (c.as_slice-latches.ensures ∙ c.latches.ensures))
    (latches_have_lits c.args.circuit.now n 0 c.is_well_formed.ensures (omega arith))

pub add_state-requires-clause-latches : goal.add_state-requires-clause-latches
add_state-requires-clause-latches c =
    let n = c.args.formula.now.vars in
    subst (λ (latches : List Latch). All (λ (l : Latch). HasLit n 0 l.lit) latches) (sym (c.as_slice-latches.ensures ∙ c.latches.ensures))
    (latches_have_lits c.args.circuit.now n 0 c.is_well_formed.ensures (omega arith))
