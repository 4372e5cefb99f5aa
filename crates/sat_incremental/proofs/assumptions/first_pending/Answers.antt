use Rattle.std.proofs.Common.{◌≡◌, true, ℤ, List, sym, ◌∙◌, subst, inl, inr}
use Rattle.std.proofs.lemmas.List.{take_all}
use Rattle.cnf_base.specs.Status.{has}
use Rattle.sat_trail.specs.Trail.{lits}
use Rattle.sat_watch.proofs.Status.{value_true, value_false}
use Rattle.sat_learn.proofs.Explanations.{take_next}
use Rattle.sat_learn.proofs.MarkedLiterals.{has_at}
use Rattle.sat_incremental.proofs.assumptions.first_pending.Goals as goal

pub loop-lit-init : goal.loop-lit-init
loop-lit-init c = λ a inside. cc

pub loop-lit-preserved : goal.loop-lit-preserved
loop-lit-preserved c a inside =
    let ls = c.args.assumptions.now in
    let lit = c.lit-item.result in
    let H : ℤ → Type 0 = λ x. has (lits c.args.trail.now.assignments) x ≡ true in
    elim (take_next ls c.loop-lit.lit-index lit a c.loop-lit-test.true c.lit-item.is inside) [
      | inl e ↦ c.loop-lit.invariant a e
      | inr e ↦ subst H e (value_true (lits c.args.trail.now.assignments) lit (sym c.value.ensures ∙ c.in-True.is))
    ]

pub returns-in-Unset : goal.returns-in-Unset
returns-in-Unset c =
    let lit = c.lit-item.result in
    (has_at c.args.assumptions.now c.loop-lit.lit-index lit lit c.loop-lit-test.true c.lit-item.is, sym c.value.ensures ∙ c.in-Unset.is)

pub returns-in-False : goal.returns-in-False
returns-in-False c =
    let lit = c.lit-item.result in
    (has_at c.args.assumptions.now c.loop-lit.lit-index lit lit c.loop-lit-test.true c.lit-item.is, (value_false (lits c.args.trail.now.assignments) lit (sym c.value.ensures ∙ c.in-False.is)).1)

pub returns : goal.returns
returns c = λ a inside.
    (let H : List ℤ → Type 0 = λ ls. has ls a ≡ true in
    c.loop-lit.invariant a (subst H (sym (take_all c.loop-lit.lit-index c.args.assumptions.now c.loop-lit-test.false)) inside))
