-- The lemmas of the steps so far.
use Rattle.std.proofs.Common.{◌≡◌, ◌+◌, ◌<◌, ◌∷◌, ◌++◌, [], ℕ, ℤ, List, true, false, cond, Some, None, length, get_or, take, drop, refl, ap, sym, ◌∙◌}
use Rattle.std.proofs.lemmas.Bool.{cond-true, cond-false}
use Rattle.std.proofs.lemmas.List.{take_more, drop_more}
use Rattle.lrat_text.specs.declared.proof.LratStep.{LratStep}
use Rattle.lrat_check.specs.declared.fault.SpentFault.TheVariants.{Lemma}
use Rattle.lrat_check.specs.FirstFault.{step_fault}
use Rattle.lrat_check.specs.SpentFault.{adds_lemma, with_lemma, spent_at, spent_from}
use Rattle.lrat_text.specs.Standing.{Standing, after}

-- the earlier clauses after some steps
abbrev pub earlier_after : List (List ℤ) → List LratStep → List (List ℤ)
earlier_after earlier [] = earlier
earlier_after earlier (step ∷ steps) = earlier_after (with_lemma earlier step) steps

pub earlier_after-push : (earlier : List (List ℤ)) (steps : List LratStep) (step : LratStep) → earlier_after earlier (steps ++ step ∷ []) ≡ with_lemma (earlier_after earlier steps) step
earlier_after-push earlier [] step = refl
earlier_after-push earlier (s ∷ steps) step = earlier_after-push (with_lemma earlier s) steps step

-- a step that may be made, and the later ones
spent_step : (n : ℕ) (s : Standing) (earlier : List (List ℤ)) (steps : List LratStep) (i : ℕ) (step : LratStep) → i < length steps → step ≡ get_or steps i step → step_fault s step ≡ None → spent_from n s earlier (drop i steps) ≡ cond (adds_lemma earlier step) (spent_from (n + 1) (after s step) (with_lemma earlier step) (drop (i + 1) steps)) (Some (Lemma (n + 1)))
spent_step n s earlier steps i step lt at faultless =
    ap (spent_from n s earlier) (drop_more steps i step lt ∙ ap (λ (x : LratStep). x ∷ drop (i + 1) steps) (sym at))
    ∙ ap (λ fault. spent_at (n + 1) fault (adds_lemma earlier step) (spent_from (n + 1) (after s step) (with_lemma earlier step) (drop (i + 1) steps))) faultless

-- a step that adds no lemma is the first fault
pub no_lemma : (n : ℕ) (s : Standing) (earlier : List (List ℤ)) (steps : List LratStep) (i : ℕ) (step : LratStep) → i < length steps → step ≡ get_or steps i step → step_fault s step ≡ None → adds_lemma earlier step ≡ false → spent_from n s earlier (drop i steps) ≡ Some (Lemma (n + 1))
no_lemma n s earlier steps i step lt at faultless lemma =
    spent_step n s earlier steps i step lt at faultless
    ∙ cond-false (adds_lemma earlier step) (spent_from (n + 1) (after s step) (with_lemma earlier step) (drop (i + 1) steps)) (Some (Lemma (n + 1))) lemma

pub earlier_more : (clauses : List (List ℤ)) (steps : List LratStep) (i : ℕ) (step : LratStep) → i < length steps → step ≡ get_or steps i step → earlier_after clauses (take (i + 1) steps) ≡ with_lemma (earlier_after clauses (take i steps)) step
earlier_more clauses steps i step lt at =
    ap (earlier_after clauses) (take_more steps i step lt ∙ ap (λ (x : LratStep). take i steps ++ x ∷ []) (sym at))
    ∙ earlier_after-push clauses (take i steps) step

-- a step that adds a lemma leaves the first fault to the later ones
pub one_lemma : (n : ℕ) (s new : Standing) (clauses : List (List ℤ)) (steps : List LratStep) (i : ℕ) (step : LratStep) → i < length steps → step ≡ get_or steps i step → step_fault s step ≡ None → adds_lemma (earlier_after clauses (take i steps)) step ≡ true → new ≡ after s step → spent_from (n + 1) new (earlier_after clauses (take (i + 1) steps)) (drop (i + 1) steps) ≡ spent_from n s (earlier_after clauses (take i steps)) (drop i steps)
one_lemma n s new clauses steps i step lt at faultless lemma went =
    let earlier = earlier_after clauses (take i steps) in
    ap (λ (t : Standing). spent_from (n + 1) t (earlier_after clauses (take (i + 1) steps)) (drop (i + 1) steps)) went
    ∙ ap (λ (e : List (List ℤ)). spent_from (n + 1) (after s step) e (drop (i + 1) steps)) (earlier_more clauses steps i step lt at)
    ∙ sym (cond-true (adds_lemma earlier step) (spent_from (n + 1) (after s step) (with_lemma earlier step) (drop (i + 1) steps)) (Some (Lemma (n + 1))) lemma)
    ∙ sym (spent_step n s earlier steps i step lt at faultless)
