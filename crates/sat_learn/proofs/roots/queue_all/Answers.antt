use Rattle.std.proofs.Common.{◌≡◌, true, ℤ, neg_ℤ, List, sym, ◌∙◌, subst, arith}
use Rattle.std.proofs.lemmas.List.{take_all}
use Rattle.cnf_base.specs.Status.{has}
use Rattle.cnf_base.proofs.Literals.{nat_abs-neg_ℤ}
use Rattle.sat_trail.specs.Trail.{lits}
use Rattle.sat_learn.proofs.Assignments.{true_literal}
use Rattle.sat_learn.proofs.MarkedLiterals.{has_at}
use Rattle.sat_learn.proofs.RootQueues.{queued_next}
use Rattle.sat_learn.proofs.roots.queue_all.Goals as goal

pub negation-requires : goal.negation-requires
negation-requires c =
    let t = c.args.trail.now in
    let lit = c.lit-item.result in
    let false_now = c.requires.false_now lit (has_at c.args.met.now c.loop-lit.lit-index lit lit c.loop-lit-test.true c.lit-item.is) in
    let literal = true_literal t (neg_ℤ lit) c.requires.trail false_now in
    let few = c.requires.trail.few_vars in
    omega (arith, literal.variable, nat_abs-neg_ℤ lit)

pub find-requires : goal.find-requires
find-requires c =
    let lit = c.lit-item.result in
    let H : ℤ → Type 0 = λ l. has (lits c.args.trail.now.assignments) l ≡ true in
    subst H (sym c.negation.ensures) (c.requires.false_now lit (has_at c.args.met.now c.loop-lit.lit-index lit lit c.loop-lit-test.true c.lit-item.is))

pub loop-lit-preserved : goal.loop-lit-preserved
loop-lit-preserved c =
    let found = c.find.ensures in
    queued_next c.args.trail.now c.loop-lit.queue c.push.new.self c.args.met.now c.loop-lit.lit-index c.lit-item.result c.find.result found.0 c.requires.trail c.loop-lit-test.true c.lit-item.is found.1 (found.2 ∙ c.negation.ensures) c.in_ok-push.ensures c.loop-lit.invariant

pub returns : goal.returns
returns c l i p met here of_var =
    let H : List ℤ → Type 0 = λ ls. has ls l ≡ true in
    c.loop-lit.invariant l i p (subst H (sym (take_all c.loop-lit.lit-index c.args.met.now c.loop-lit-test.false)) met) here of_var
