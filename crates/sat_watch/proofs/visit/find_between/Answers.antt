use Rattle.std.proofs.Common.{◌≡◌, true, ℤ, get_or, sym, ap, ◌∙◌, subst, arith, inl, inr}
use Rattle.std.specs.Ordering.{int_eq}
use Rattle.std.proofs.lemmas.Bool.{cases_lt, not-false}
use Rattle.std.proofs.lemmas.Bool.Decides.{Decides-int_eq}
use Rattle.std.proofs.lemmas.Option.{get_or_from_slice_get}
use Rattle.cnf_base.specs.Status.{IsFalseIn}
use Rattle.sat_trail.specs.Trail.{lits}
use Rattle.sat_watch.proofs.Status.{value_false}
use Rattle.sat_watch.proofs.visit.find_between.Goals.{then-ne+in-False, else-ne}
use Rattle.sat_watch.proofs.visit.find_between.Goals as goal

pub loop-place-preserved : goal.loop-place-preserved
loop-place-preserved c j l low high there apart =
    let clause = c.args.clause.now in
    let i = c.loop-place.place in
    let lit = c.index-clause-place.result in
    let true_lits = lits c.args.trail.now.assignments in
    let Q : ℤ → Type 0 = λ x. IsFalseIn true_lits x in
    elim (cases_lt j i) [
      | inl before ↦ c.loop-place.invariant j l low before there apart
      | inr past ↦ (let same : i ≡ j = omega arith in
          let lit_is : lit ≡ l = c.index-clause-place.is ∙ ap (λ n. get_or clause n lit) same ∙ get_or_from_slice_get clause j l lit there in
          elim c.if-ne.branch [
            | then-ne+in-False w ↦ subst Q lit_is (value_false true_lits lit (sym w.value.ensures ∙ w.in-False.is))
            | else-ne w ↦ (let equal : int_eq lit c.args.other ≡ true = not-false (int_eq lit c.args.other) (sym c.ne.ensures ∙ w.if-ne.false) in
                absurd (apart (sym lit_is ∙ (Decides-int_eq lit c.args.other).0 equal)))
          ])
    ]
