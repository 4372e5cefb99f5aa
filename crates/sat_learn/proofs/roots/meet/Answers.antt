use Rattle.std.proofs.Common.{◌≡◌, ◌⊎◌, ℕ, List, Bool, true, false, ℤ, neg_ℤ, nat_abs, set, get_or, ap, sym, ◌∙◌, subst, arith, inl, inr}
use Rattle.std.proofs.lemmas.Bool.{both_ways}
use Rattle.cnf_base.specs.Status.{has}
use Rattle.cnf_base.proofs.Literals.{nat_abs-neg_ℤ}
use Rattle.sat_trail.specs.Trail.{lits}
use Rattle.sat_learn.specs.Resolving.{is_marked, AreQueued}
use Rattle.sat_learn.proofs.Assignments.{true_literal}
use Rattle.sat_learn.proofs.RootQueues.{queued_more}
use Rattle.sat_learn.proofs.roots.meet.Goals as goal

-- a literal that isn't marked is false
false_if_unmarked : (marks : List Bool) (true_lits : List ℤ) (lit : ℤ) (index : ℕ) → index ≡ nat_abs lit → get_or marks index false ≡ false → (is_marked marks lit ≡ true) ⊎ (has true_lits (neg_ℤ lit) ≡ true) → has true_lits (neg_ℤ lit) ≡ true
false_if_unmarked marks true_lits lit index is unmarked known =
    elim known [
      | inl e ↦ absurd (both_ways (is_marked marks lit) (ap (λ n. get_or marks n false) (sym is) ∙ unmarked) e)
      | inr e ↦ e
    ]

pub negation-requires : goal.negation-requires
negation-requires c =
    let t = c.args.trail.now in
    let false_now = false_if_unmarked c.args.marks.now (lits t.assignments) c.args.lit c.var-index.result c.var-index.ensures.size c.if-marks-index.false c.requires.false_now in
    let literal = true_literal t (neg_ℤ c.args.lit) c.requires.trail false_now in
    let few = c.requires.trail.few_vars in
    omega (arith, literal.variable, nat_abs-neg_ℤ c.args.lit)

pub find-requires : goal.find-requires
find-requires c =
    let true_lits = lits c.args.trail.now.assignments in
    let H : ℤ → Type 0 = λ l. has true_lits l ≡ true in
    subst H (sym c.negation.ensures) (false_if_unmarked c.args.marks.now true_lits c.args.lit c.var-index.result c.var-index.ensures.size c.if-marks-index.false c.requires.false_now)

pub returns-clause-queued : goal.returns-clause-queued
returns-clause-queued c place queued =
    let t = c.args.trail.now in
    let found = c.find.ensures in
    let P : ℕ → Type 0 = λ v. AreQueued t.assignments (set c.args.marks.now v true) c.push.new.self place in
    subst P (sym c.var-index.ensures.size)
    (queued_more t c.args.marks.now c.args.queue.now c.push.new.self c.args.lit c.find.result found.0 c.requires.trail found.1 (found.2 ∙ c.negation.ensures) c.in_ok-push.ensures place queued)
