use Rattle.std.proofs.Common.{◌≡◌, ◌≢◌, ◌≤◌, ◌++◌, ℤ, ℕ, pos, List, length, take, sym, ap, ◌∙◌, subst}
use Rattle.std.specs.List.{flat_map, AllByRecursion}
use Rattle.std.proofs.lemmas.List.{take_all}
use Rattle.std.proofs.lemmas.List.Elements.{recursion_from_All}
use Rattle.cnf_base.specs.Meaning.{CnfFormula, IsWithin}
use Rattle.cnf_base.specs.Dimacs.{SpellsFormula}
use Rattle.cnf_base.specs.Text.{header_text, clause_text}
use Rattle.cnf_base.proofs.WrittenBack.{formula_text-spells, fit-clauses}
use Rattle.cnf_base.proofs.writing.write_dimacs.Goals as goal

pub returns-clause-reads_back : goal.returns-clause-reads_back
returns-clause-reads_back c few =
    let formula : CnfFormula = c.args.formula.now in
    let items = c.as_slice-clause-items.result.now in
    let all : take c.loop-clause.clause-index items ≡ formula.clauses =
    take_all c.loop-clause.clause-index items c.loop-clause-test.false ∙ c.as_slice-clause-items.ensures ∙ c.clauses-2.ensures.value in
    let written = c.loop-clause.invariant.written ∙ ap (λ cs. header_text formula.vars (length formula.clauses) ++ flat_map clause_text cs) all in
    let some = subst (λ (cs : List (List ℤ)). AllByRecursion (AllByRecursion (λ (l : ℤ). l ≢ pos 0)) cs) all c.loop-clause.invariant.not_zero in
    let within = recursion_from_All (IsWithin formula.vars) formula.clauses c.clauses-2.ensures.in_range in
    let limit : formula.vars ≤ 4000000 = subst (λ (n : ℕ). n ≤ 4000000) c.vars.ensures.value c.vars.ensures.limit in
    subst (λ (t : List ℕ). SpellsFormula t formula) (sym written)
    (formula_text-spells formula limit few (fit-clauses formula.vars formula.clauses some within))
