use Rattle.std.proofs.Common.{◌≡◌, ◌+◌, ◌<◌, ℤ, List, [], ◌∷◌, ◌++◌, length, take, ap, sym, ◌∙◌, subst}
use Rattle.std.proofs.lemmas.Bool.{false≢true}
use Rattle.inv_cert.specs.Resets.{HoldsAtReset}
use Rattle.inv_prover.specs.Greatest.{ArePicked}
use Rattle.inv_prover.proofs.Picking.{picked_more, passed_more}
use Rattle.inv_prover.proofs.pick.holding_at_reset.Goals as goal
use Rattle.inv_prover.proofs.pick.holding_at_reset.Goals.{then-holds_at_reset+in_ok-copy+in_ok-push, else-holds_at_reset}

pub loop-clause-preserved : goal.loop-clause-preserved
loop-clause-preserved c =
    let P = HoldsAtReset c.args.circuit.now in
    let all = c.args.clauses.now in
    let i = c.loop-clause.clause-index in
    let old = c.loop-clause.picked in
    let x = c.clause-item.result in
    let inside : i < length all = c.loop-clause-test.true in (
      c.holds_at_reset.ensures.reset,
      elim c.if-holds_at_reset.branch [
        | then-holds_at_reset+in_ok-copy+in_ok-push w ↦
            let holds : P x = subst P c.as_slice.ensures (c.holds_at_reset.ensures.holds.0 w.if-holds_at_reset.true) in
            let new : c.if-holds_at_reset.picked ≡ old ++ x ∷ [] = w.picked-is ∙ w.in_ok-push.ensures.ok ∙ ap (λ (y : List ℤ). old ++ y ∷ []) w.in_ok-copy.ensures in
            subst (λ (p : List (List ℤ)). ArePicked P (take (i + 1) all) p) (sym new) (picked_more P all old i x inside c.clause-item.is holds c.loop-clause.invariant.1)
        | else-holds_at_reset w ↦
            let fails : ¬ P x = λ h. false≢true (sym w.if-holds_at_reset.false ∙ c.holds_at_reset.ensures.holds.1 (subst P (sym c.as_slice.ensures) h)) in
            subst (λ (p : List (List ℤ)). ArePicked P (take (i + 1) all) p) (sym w.picked-is) (passed_more P all old i x inside c.clause-item.is fails c.loop-clause.invariant.1)
      ],
    )
