use Rattle.std.proofs.Common.{◌≡◌, ℕ, ◌+◌, ◌<◌, ℤ, List, [], length, get_or, refl, sym, subst, ◌∙◌, arith, inl, inr}
use Rattle.std.specs.Prelude.{All}
use Rattle.std.proofs.lemmas.Bool.{cases_eq}
use Rattle.std.proofs.lemmas.List.{get_or_default}
use Rattle.inv_cert.specs.Resets.{HoldsAtReset}
use Rattle.report_check.proofs.clauses.hold_at_reset.Goals as goal

pub returns-then-not-holds_at_reset : goal.returns-then-not-holds_at_reset
returns-then-not-holds_at_reset c = (
  λ never. absurd cc,
  λ (all : All (HoldsAtReset c.args.circuit.now) c.args.clauses.now). c.if-not-holds_at_reset.ensures.holds.1
      (subst (λ (d : List ℤ). HoldsAtReset c.args.circuit.now d) (sym (c.as_slice.ensures ∙ c.clause-item.is)) (all c.loop-clause.clause-index c.clause-item.result c.loop-clause-test.true)),
)

pub loop-clause-preserved : goal.loop-clause-preserved
loop-clause-preserved c =
    let xs = c.args.clauses.now in
    let n = c.loop-clause.clause-index in
    let read : c.as_slice.result.now ≡ get_or xs n [] = c.as_slice.ensures ∙ (c.clause-item.is ∙ get_or_default xs n c.clause-item.result [] c.loop-clause-test.true) in
    let here : HoldsAtReset c.args.circuit.now (get_or xs n []) = subst (λ (d : List ℤ). HoldsAtReset c.args.circuit.now d) read (c.if-not-holds_at_reset.ensures.holds.0 refl) in (
      c.holds_at_reset.ensures.reset,
      λ k less. elim (cases_eq k n) [
        | inl same ↦ subst (λ (m : ℕ). HoldsAtReset c.args.circuit.now (get_or xs m [])) (sym same) here
        | inr other ↦ c.loop-clause.invariant.1 k (omega (arith, other, less))
      ],
    )

pub returns : goal.returns
returns c = (
  λ _ k d inside. subst (λ (x : List ℤ). HoldsAtReset c.args.circuit.now x) (get_or_default c.args.clauses.now k [] d inside)
      (c.loop-clause.invariant.1 k (omega (arith, inside, c.loop-clause-test.false))),
  λ _. refl,
)
