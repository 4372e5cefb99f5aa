use Rattle.std.proofs.Common.{◌≡◌, ℤ, neg_ℤ, nat_abs, Option, Some, None, ap, sym, ◌∙◌, subst, arith}
use Rattle.std.specs.Option.{IsSome, option_and_then}
use Rattle.sat_trail.specs.declared.clause_id.ClauseId.{ClauseId}
use Rattle.sat_trail.specs.Trail.{Assignment}
use Rattle.sat_learn.specs.Implying.{ImpliesByDecisions}
use Rattle.cnf_base.proofs.Literals.{nat_abs-neg_ℤ}
use Rattle.sat_learn.proofs.Assignments.{true_literal, assignment_of_false}
use Rattle.sat_solver.proofs.Roots.{contains_at}
use Rattle.sat_incremental.proofs.Assumed.{within_assumptions, decision_assumed, core_of_implied}
use Rattle.sat_incremental.proofs.Growth.{extends_same}
use Rattle.sat_incremental.proofs.failed.fail.Goals as goal
use Rattle.std.proofs.Common.{refl}
use Rattle.cnf_base.specs.Status.{has}
use Rattle.std.proofs.Common.{true}

pub returns-in-None-clause-outcome : goal.returns-in-None-clause-outcome
returns-in-None-clause-outcome c =
    let search = c.args.search.now in
    let t = search.premises.trail in
    let lit = c.args.lit in
    let trail = c.is_well_formed.ensures in
    let found = assignment_of_false t lit c.var.result trail c.requires.failed c.var.ensures.size in
    let p = found.1 in
    let none : p.reason ≡ None = ap (option_and_then (λ (q : Assignment). q.reason)) (sym found.4) ∙ sym c.reason_of.ensures ∙ c.in-None.is in
    let H : ℤ → Type 0 = λ x. has c.args.assumptions.now x ≡ true in
    (lit, c.requires.assumed, subst H found.3 (decision_assumed c.args.assumptions.now t lit p trail c.requires.query.assumed c.requires.assumed c.requires.failed (contains_at t.assignments found.0 p found.2) none))

pub add_implication-requires-clause-implied : goal.add_implication-requires-clause-implied
add_implication-requires-clause-implied c =
    let t = c.args.search.now.premises.trail in
    let found = assignment_of_false t c.args.lit c.var.result c.is_well_formed.ensures c.requires.failed c.var.ensures.size in
    let p = found.1 in
    let some : p.reason ≡ Some c.in-Some.field-0 = ap (option_and_then (λ (q : Assignment). q.reason)) (sym found.4) ∙ sym c.reason_of.ensures ∙ c.in-Some.is in
    let S : Option ClauseId → Type 0 = λ r. IsSome r in
    (found.0, p, found.2, found.3 ∙ sym c.negation.ensures, subst S (sym some) refl)

pub returns-in_ok-id-in-Some-clause-outcome : goal.returns-in_ok-id-in-Some-clause-outcome
returns-in_ok-id-in-Some-clause-outcome c =
    let t = c.args.search.now.premises.trail in
    let lemma = c.in_ok-id-in-Some.ensures.lemma in
    let I : ℤ → Type 0 = λ x. ImpliesByDecisions t.assignments x lemma.0 in
    (lemma.0, lemma.1, core_of_implied c.args.assumptions.now t c.args.lit lemma.0 c.is_well_formed.ensures c.requires.query.assumed c.requires.assumed c.requires.failed (subst I c.negation.ensures lemma.2))

pub reason_of-requires-clause-in_range : goal.reason_of-requires-clause-in_range
reason_of-requires-clause-in_range c =
    let t = c.args.search.now.premises.trail in
    let literal = true_literal t (neg_ℤ c.args.lit) c.is_well_formed.ensures c.requires.failed in
    omega (arith, literal.variable, nat_abs-neg_ℤ c.args.lit, c.var.ensures.size)

pub negation-requires : goal.negation-requires
negation-requires c =
    let t = c.args.search.now.premises.trail in
    let literal = true_literal t (neg_ℤ c.args.lit) c.is_well_formed.ensures c.requires.failed in
    omega (arith, literal.variable, nat_abs-neg_ℤ c.args.lit, c.is_well_formed.ensures.few_vars)
