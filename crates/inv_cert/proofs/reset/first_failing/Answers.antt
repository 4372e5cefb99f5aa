use Rattle.std.proofs.Common.{◌≡◌, ℕ, ℤ, [], List, get_or, arith, inl, inr, subst, ◌∙◌, ap}
use Rattle.std.proofs.lemmas.Bool.{cases_lt}
use Rattle.std.proofs.lemmas.List.{get_or_default}
use Rattle.inv_cert.specs.Resets.{HoldsAtReset}
use Rattle.inv_cert.proofs.reset.first_failing.Goals as goal

pub loop-place-preserved : goal.loop-place-preserved
loop-place-preserved c = (
  c.holds_at_reset.ensures.reset,
  λ k below. elim (cases_lt k c.loop-place.place) [
    | inl before ↦ c.loop-place.invariant.1 k before
    | inr after ↦
        let here : HoldsAtReset c.args.circuit.now c.as_slice.result.now = c.holds_at_reset.ensures.holds.0 c.if-not-holds_at_reset.false in
        let same : c.loop-place.place ≡ k = omega (arith, below, after) in
        let item : c.as_slice.result.now ≡ get_or c.args.clauses.now k [] =
        c.as_slice.ensures ∙ c.index-clauses-place.is ∙ get_or_default c.args.clauses.now c.loop-place.place c.index-clauses-place.result [] (omega arith) ∙ ap (λ (i : ℕ). get_or c.args.clauses.now i []) same in
        subst (λ (x : List ℤ). HoldsAtReset c.args.circuit.now x) item here
  ],
)

pub returns : goal.returns
returns c k d inside =
    subst (λ (x : List ℤ). HoldsAtReset c.args.circuit.now x) (get_or_default c.args.clauses.now k [] d inside)
    (c.loop-place.invariant.1 k (omega (arith, inside)))
