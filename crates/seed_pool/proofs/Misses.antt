-- Claim steps that lost.
use Rattle.std.proofs.Common.{◌≡◌, ◌≢◌, ◌⊎◌, ℕ, zero, suc, ◌+◌, List, [], ◌∷◌, ◌++◌, length, Some, sym, refl, ap, ◌∙◌, inl, inr, arith, append-nil, append_assoc, length-append}
use Rattle.std.specs.Prelude.{slice_get}
use Rattle.std.proofs.lemmas.Option.{same_Some, none-some}
use Rattle.seed_pool.specs.Seats.{Missed, Grows}

at_push : {A : Type 0} (l : List A) (a b : A) (j : ℕ) → slice_get (l ++ a ∷ []) j ≡ Some b → (slice_get l j ≡ Some b) ⊎ ((j ≡ length l) × (a ≡ b))
at_push [] a b zero e = inr (refl, same_Some a b e)
at_push [] a b (suc j) e = absurd (none-some b e)
at_push (x ∷ xs) a b zero e = inl e
at_push (x ∷ xs) a b (suc j) e = elim (at_push xs a b j e) [ inl old ↦ inl old | inr new ↦ inr (ap suc new.0, new.1) ]

pub missed_none : (word : ℕ) (old new : List (ℕ × ℕ)) → new ≡ old → Missed word 0 old new
missed_none word old new e = record { more = []; grew = e ∙ sym (append-nil old); count = refl; each = λ k p at. absurd (none-some p at) }

pub missed_more : (word n found : ℕ) (old mid new : List (ℕ × ℕ)) → Missed word n old mid → found ≢ word → new ≡ mid ++ (n, found) ∷ [] → Missed word (n + 1) old new
missed_more word n found old mid new m ne e = record {
  more = m.more ++ (n, found) ∷ [];
  grew = e ∙ ap (λ l. l ++ (n, found) ∷ []) m.grew ∙ append_assoc old m.more ((n, found) ∷ []);
  count = omega (arith, length-append m.more ((n, found) ∷ []), m.count);
  each = λ k p at. elim (at_push m.more (n, found) p k at) [
    | inl old ↦ m.each k p old
    | inr last ↦ (omega (arith, last.0, m.count, ap (λ (x : ℕ × ℕ). x.0) last.1), λ bad. ne (ap (λ (x : ℕ × ℕ). x.1) last.1 ∙ bad))
  ];
}

pub missed_then : (word n found : ℕ) (old mid new : List (ℕ × ℕ)) → Missed word n old mid → new ≡ mid ++ (n, found) ∷ [] → Grows old new
missed_then word n found old mid new m e = (m.more ++ (n, found) ∷ [], e ∙ ap (λ l. l ++ (n, found) ∷ []) m.grew ∙ append_assoc old m.more ((n, found) ∷ []))
