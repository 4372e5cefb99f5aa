use Rattle.std.proofs.Common.{ℤ, List, subst, sym, ◌∙◌}
use Rattle.std.proofs.lemmas.Bool.{both_ways}
use Rattle.lrat_check.specs.ClauseKeys.{IsKeyOf}
use Rattle.lrat_check.proofs.ClauseKeys.{TakesStep-insert}
use Rattle.lrat_check.proofs.spent.take_lemma.Goals as goal

pub returns-clause-lemma : goal.returns-clause-lemma
returns-clause-lemma c =
    let P : List ℤ → Type 0 = λ lits. IsKeyOf lits c.in_ok-key_of.field-0.items in
    TakesStep-insert c.args.taken.now c.insert.new.self c.in_ok-key_of.field-0 c.args.step.now c.in-Add.id c.in-Add.lits c.in-Add.hints c.in_ok-fresh.fresh
    c.in-Add.is (λ none. both_ways c.is_empty.result c.if-is_empty.false (c.is_empty.ensures.1 none)) (sym c.in_ok-is_tautology.ensures.value ∙ c.if-branch.false) (subst P c.as_slice.ensures c.in_ok-key_of.ensures) c.in_ok-fresh.ensures.added c.in_ok-fresh.ensures.keys
