-- Places of a list after a write or a push.
use Rattle.std.proofs.Common.{◌≡◌, ◌≢◌, ℕ, zero, suc, ◌<◌, List, [], ◌∷◌, ◌++◌, length, set, refl, ap, arith, Some, inl, inr}
use Rattle.std.specs.Prelude.{slice_get, ◌⊎◌}
use Rattle.std.proofs.lemmas.Option.{same_Some}

pub get-set_same : {A : Type 0} (xs : List A) (k : ℕ) (y : A) → k < length xs → slice_get (set xs k y) k ≡ Some y
get-set_same [] k y h = absurd (omega arith)
get-set_same (x ∷ xs) zero y h = refl
get-set_same (x ∷ xs) (suc k) y h = get-set_same xs k y (omega arith)

pub get-set_other : {A : Type 0} (xs : List A) (k j : ℕ) (y : A) → j ≢ k → slice_get (set xs k y) j ≡ slice_get xs j
get-set_other [] k j y h = refl
get-set_other (x ∷ xs) zero zero y h = absurd (h refl)
get-set_other (x ∷ xs) zero (suc j) y h = refl
get-set_other (x ∷ xs) (suc k) zero y h = refl
get-set_other (x ∷ xs) (suc k) (suc j) y h = get-set_other xs k j y (λ e. h (ap (λ n. suc n) e))

pub get-push_old : {A : Type 0} (xs : List A) (y x : A) (n : ℕ) → slice_get xs n ≡ Some x → slice_get (xs ++ y ∷ []) n ≡ Some x
get-push_old [] y x n h = absurd cc
get-push_old (z ∷ xs) y x zero h = h
get-push_old (z ∷ xs) y x (suc n) h = get-push_old xs y x n h

pub get-push_new : {A : Type 0} (xs : List A) (y : A) → slice_get (xs ++ y ∷ []) (length xs) ≡ Some y
get-push_new [] y = refl
get-push_new (z ∷ xs) y = get-push_new xs y

pub get-push_cases : {A : Type 0} (xs : List A) (y x : A) (n : ℕ) → slice_get (xs ++ y ∷ []) n ≡ Some x → (slice_get xs n ≡ Some x) ⊎ ((n ≡ length xs) × (y ≡ x))
get-push_cases [] y x zero h = inr (refl, same_Some y x h)
get-push_cases [] y x (suc n) h = absurd cc
get-push_cases (z ∷ xs) y x zero h = inl h
get-push_cases (z ∷ xs) y x (suc n) h =
    elim (get-push_cases xs y x n h) [
      | inl old ↦ inl old
      | inr new ↦ inr (ap (λ k. suc k) new.0, new.1)
    ]
