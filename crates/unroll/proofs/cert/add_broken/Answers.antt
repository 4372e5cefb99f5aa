use Rattle.std.proofs.Common.{ℕ, List, All, sym, ap, ◌∙◌, subst, arith}
use Rattle.cnf_base.specs.Meaning.{IsWithin}
use Rattle.aig_model.specs.WellFormed.{next_lits}
use Rattle.aig_model.specs.LatchClauses.{IsLatchClause}
use Rattle.aig_model.specs.declared.parts.Latch.{Latch}
use Rattle.unroll.specs.Building.{HasLit}
use Rattle.unroll.specs.Queries.{latch_clause}
use Rattle.unroll.proofs.Within.{next_lits_have_room, latch_clause_within, clause_names}
use Rattle.unroll.proofs.cert.add_broken.Goals as goal

pub latch_clause-requires-clause-lits : goal.latch_clause-requires-clause-lits
latch_clause-requires-clause-lits c =
    let top = c.is_well_formed.ensures.sized.top in
    subst (λ (lits : List ℕ). All (HasLit 4000000 0) lits) (sym (c.deref.ensures.value ∙ c.in_ok-lits.ensures))
    (next_lits_have_room c.args.circuit.now 4000000 c.is_well_formed.ensures (omega arith))

pub add_false_units-requires-clause-lits : goal.add_false_units-requires-clause-lits
add_false_units-requires-clause-lits c =
    let circuit = c.args.circuit.now in
    let n = c.args.formula.now.vars in
    let lits = next_lits circuit.latches in
    let clause = c.get.result.now in
    let is : IsLatchClause circuit clause =
    subst (IsLatchClause circuit) (sym c.get.ensures) (c.requires.clauses c.args.place clause c.requires.place)
    in
    let same = ap (λ (xs : List ℕ). latch_clause xs c.as_slice-clause.result.now) (c.deref.ensures.value ∙ c.in_ok-lits.ensures) in
    subst (IsWithin n) (sym (c.deref-2.ensures.value ∙ (c.in_ok-after.ensures ∙ (same ∙ ap (latch_clause lits) c.as_slice-clause.ensures))))
    (latch_clause_within n lits clause (next_lits_have_room circuit n c.is_well_formed.ensures c.requires.room)
    (clause_names circuit (λ (l : Latch). l.next) clause is))
