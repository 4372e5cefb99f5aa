use Rattle.std.proofs.Common.{ℕ, List, All, sym, ◌∙◌, subst}
use Rattle.unroll.specs.Building.{HasLit}
use Rattle.unroll.proofs.Within.{latch_lits_have_room}
use Rattle.unroll.proofs.cert.add_held.Goals as goal

pub add_latch_clauses-requires-clause-lits : goal.add_latch_clauses-requires-clause-lits
add_latch_clauses-requires-clause-lits c =
    let n = c.args.formula.now.vars in
    subst (λ (lits : List ℕ). All (HasLit n 0) lits) (sym (c.deref.ensures.value ∙ c.in_ok-lits.ensures))
    (latch_lits_have_room c.args.circuit.now n c.is_well_formed.ensures c.requires.room)
