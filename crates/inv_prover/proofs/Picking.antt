-- Clauses of a list that have a property, one more at a time.
use Rattle.std.proofs.Common.{◌≡◌, ℕ, ◌+◌, ◌<◌, ℤ, List, [], ◌∷◌, ◌++◌, length, get_or, take, sym, subst, inl, inr, Contains}
use Rattle.std.proofs.lemmas.List.Elements.{All-nil, All-push, Contains-append_left, Contains-push, Contains-push_cases}
use Rattle.aig_model.proofs.Elements.{items_next}
use Rattle.inv_prover.specs.Greatest.{ArePicked}
use Rattle.inv_prover.proofs.Parts.{left_out, taken}

pub picked_none : (P : List ℤ → Type 0) → ArePicked P [] []
picked_none P = record { part = tt; hold = All-nil P; whole = λ clause here holds. here }

pub picked_more : (P : List ℤ → Type 0) (all picked : List (List ℤ)) (i : ℕ) (x : List ℤ) → i < length all → x ≡ get_or all i x → P x
    → ArePicked P (take i all) picked → ArePicked P (take (i + 1) all) (picked ++ x ∷ [])
picked_more P all picked i x inside at holds h = subst (λ (done : List (List ℤ)). ArePicked P done (picked ++ x ∷ [])) (sym (items_next all i x inside at)) (record {
  part = taken picked (take i all) x h.part;
  hold = All-push P picked x h.hold holds;
  whole = λ clause here so. elim (Contains-push_cases (take i all) x clause here) [
    | inl before ↦ Contains-append_left picked (x ∷ []) clause (h.whole clause before so)
    | inr same ↦ subst (Contains (picked ++ x ∷ [])) same (Contains-push picked x)
  ];
})

pub passed_more : (P : List ℤ → Type 0) (all picked : List (List ℤ)) (i : ℕ) (x : List ℤ) → i < length all → x ≡ get_or all i x → ¬ P x
    → ArePicked P (take i all) picked → ArePicked P (take (i + 1) all) picked
passed_more P all picked i x inside at fails h = subst (λ (done : List (List ℤ)). ArePicked P done picked) (sym (items_next all i x inside at)) (record {
  part = left_out picked (take i all) x h.part;
  hold = h.hold;
  whole = λ clause here so. elim (Contains-push_cases (take i all) x clause here) [
    | inl before ↦ h.whole clause before so
    | inr same ↦ absurd (fails (subst P (sym same) so))
  ];
})
