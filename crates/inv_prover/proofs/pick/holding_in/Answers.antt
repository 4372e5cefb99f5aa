use Rattle.std.proofs.Common.{◌≡◌, ◌+◌, ◌<◌, ℤ, List, [], ◌∷◌, ◌++◌, length, take, ap, sym, ◌∙◌, subst}
use Rattle.std.proofs.lemmas.Bool.{false≢true}
use Rattle.aig_model.specs.LatchClauses.{SatisfiesClause}
use Rattle.inv_prover.specs.Greatest.{ArePicked}
use Rattle.inv_prover.proofs.Picking.{picked_more, passed_more}
use Rattle.inv_prover.proofs.pick.holding_in.Goals as goal
use Rattle.inv_prover.proofs.pick.holding_in.Goals.{then-satisfies+in_ok-copy+in_ok-push, else-satisfies}

pub loop-clause-preserved : goal.loop-clause-preserved
loop-clause-preserved c =
    let P = SatisfiesClause c.args.state.now in
    let all = c.args.clauses.now in
    let i = c.loop-clause.clause-index in
    let old = c.loop-clause.picked in
    let x = c.clause-item.result in
    let inside : i < length all = c.loop-clause-test.true in
    elim c.if-satisfies.branch [
      | then-satisfies+in_ok-copy+in_ok-push w ↦
          let holds : P x = subst P c.as_slice.ensures (c.satisfies.ensures.0 w.if-satisfies.true) in
          let new : c.if-satisfies.picked ≡ old ++ x ∷ [] = w.picked-is ∙ w.in_ok-push.ensures.ok ∙ ap (λ (y : List ℤ). old ++ y ∷ []) w.in_ok-copy.ensures in
          subst (λ (p : List (List ℤ)). ArePicked P (take (i + 1) all) p) (sym new) (picked_more P all old i x inside c.clause-item.is holds c.loop-clause.invariant)
      | else-satisfies w ↦
          let fails : ¬ P x = λ h. false≢true (sym w.if-satisfies.false ∙ c.satisfies.ensures.1 (subst P (sym c.as_slice.ensures) h)) in
          subst (λ (p : List (List ℤ)). ArePicked P (take (i + 1) all) p) (sym w.picked-is) (passed_more P all old i x inside c.clause-item.is fails c.loop-clause.invariant)
    ]
