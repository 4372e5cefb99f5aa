use Rattle.std.proofs.Common.{◌≡◌, All, length, sym, ap, ◌∙◌, subst, arith}
use Rattle.cnf_base.specs.Meaning.{CnfFormula, IsWithin}
use Rattle.unroll.specs.Building.{HasLit, NamesItem}
use Rattle.unroll.specs.Queries.{latch_clause}
use Rattle.unroll.proofs.Within.{latch_clause_within}
use Rattle.unroll.proofs.cert.add_latch_clauses.Goals as goal

pub add-requires : goal.add-requires
add-requires c =
    let n = c.loop-clause.formula.vars in
    let lits = c.args.lits.now in
    let same : n ≡ c.args.formula.now.vars = ap (λ (f : CnfFormula). f.vars) c.loop-clause.invariant in
    let room = subst (λ m. All (HasLit m 0) lits) (sym same) c.requires.lits in
    let names : All (NamesItem (length lits)) c.clause-item.result =
    subst (All (NamesItem (length lits))) (sym c.clause-item.is) (c.requires.names c.loop-clause.clause-index c.clause-item.result (omega arith))
    in
    subst (IsWithin n) (sym (c.deref.ensures.value ∙ (c.in_ok-literals.ensures ∙ ap (latch_clause lits) c.as_slice.ensures)))
    (latch_clause_within n lits c.clause-item.result room names)
