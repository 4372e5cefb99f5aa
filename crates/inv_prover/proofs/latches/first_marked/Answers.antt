use Rattle.std.proofs.Common.{◌≡◌, ℕ, ◌+◌, ◌<◌, ◌≤◌, false, List, [], ◌∷◌, ◌++◌, length, get_or, ap, sym, ◌∙◌, subst, arith}
use Rattle.aig_model.specs.Literal.{var}
use Rattle.aig_model.specs.declared.parts.Latch.{Latch}
use Rattle.inv_prover.specs.Dependents.{AreFirstMarked, IsMarkedLatch}
use Rattle.inv_prover.proofs.Places.{first_more, first_passed, marked_latch, not_marked}
use Rattle.inv_prover.proofs.latches.first_marked.Goals as goal
use Rattle.inv_prover.proofs.latches.first_marked.Goals.{then-is_marked+then-len-lt-MOST_LATCHES+in_ok-push, else-is_marked, else-is_marked-via-then-is_marked+else-len-lt-MOST_LATCHES, else-is_marked-via-else-is_marked}

pub loop-place-preserved : goal.loop-place-preserved
loop-place-preserved c =
    let latches = c.args.latches.now in
    let marks = c.args.marks.now in
    let i = c.loop-place.place in
    let old = c.loop-place.found.items in
    let l = c.index-latches-place.result in
    let inside : i < length latches = omega arith in
    let read : c.get-is_marked.result ≡ get_or marks (var l.lit) false = c.get-is_marked.ensures ∙ ap (λ (v : ℕ). get_or marks v false) (c.var.ensures ∙ ap (λ (x : Latch). var x.lit) (sym c.index-latches-place.is)) in
    elim c.if-is_marked.branch [
      | then-is_marked+then-len-lt-MOST_LATCHES+in_ok-push w ↦
          let here : IsMarkedLatch latches marks i = marked_latch latches marks i l inside c.index-latches-place.is (sym read ∙ w.if-is_marked.true) in
          let items : c.if-is_marked.found.items ≡ old ++ i ∷ [] = let pushed = w.in_ok-push.ensures.items in cc in
          subst (λ (found : List ℕ). AreFirstMarked latches marks (i + 1) found) (sym items) (first_more latches marks i old c.loop-place.invariant here (omega arith))
      | else-is_marked w ↦
          let items : c.if-is_marked.found.items ≡ old = cc in
          let full : IsMarkedLatch latches marks i → 24 ≤ length old =
          λ h. elim w.else-is_marked.branch [
            | else-is_marked-via-then-is_marked+else-len-lt-MOST_LATCHES v ↦ omega arith
            | else-is_marked-via-else-is_marked v ↦ absurd (not_marked latches marks i l c.index-latches-place.is (sym read ∙ v.if-is_marked.false) h)
          ]
          in
          subst (λ (found : List ℕ). AreFirstMarked latches marks (i + 1) found) (sym items) (first_passed latches marks i old c.loop-place.invariant full)
    ]
