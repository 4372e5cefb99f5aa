-- Lists in which nothing stands twice.
use Rattle.std.proofs.Common.{◌≡◌, ◌≢◌, ℕ, zero, suc, ◌<◌, ◌≤◌, true, eqb, List, [], ◌∷◌, ◌++◌, length, get_or, refl, ap, sym, ◌∙◌, subst, arith, inl, inr, ◌⊎◌}
use Rattle.std.specs.List.{list_any, IsDistinct, Contains}
use Rattle.std.proofs.lemmas.Bool.{eqb-true, false_from_ne_true, both_ways}
use Rattle.std.proofs.lemmas.Cmp.{nat_eq_equiv}
use Rattle.std.proofs.lemmas.List.Elements.{Contains-append_left, Contains-append_right, Contains-append_cases}
use Rattle.std.proofs.lemmas.Map.Keys.{IsDistinct-tail, IsDistinct-cons}
use Rattle.std.proofs.lemmas.Map.Steps.{length-le_from_distinct_below}
use Rattle.std.proofs.lemmas.Map.Views.{list_any-from_Contains, Contains-from_any}
use Rattle.sat_trail.proofs.LiteralValues.{each_from, distinct_apart}

pub contains_here : (v : ℕ) (xs : List ℕ) → Contains (v ∷ xs) v
contains_here v xs = (0, omega arith, refl)

pub contains_later : (v x : ℕ) (xs : List ℕ) → Contains xs v → Contains (x ∷ xs) v
contains_later v x xs c = (suc c.0, (let lt = c.1 in omega arith), c.2)

pub contains_where : (v x : ℕ) (xs : List ℕ) → Contains (x ∷ xs) v → (x ≡ v) ⊎ Contains xs v
contains_where v x xs c = at c.0 c.1 c.2
  where
    at : (k : ℕ) → k < length (x ∷ xs) → get_or (x ∷ xs) k v ≡ v → (x ≡ v) ⊎ Contains xs v
    at zero lt e = inl e
    at (suc k) lt e = inr (k, omega arith, e)

is_there : (v : ℕ) (xs : List ℕ) → Contains xs v → list_any (eqb v) xs ≡ true
is_there v xs c = list_any-from_Contains nat_eq_equiv v xs c

there_is : (v : ℕ) (xs : List ℕ) → list_any (eqb v) xs ≡ true → Contains xs v
there_is v xs e = Contains-from_any eqb-true v xs e

-- what stands in the first part stands in no later one
pub apart : (xs ys : List ℕ) (v : ℕ) → IsDistinct eqb (xs ++ ys) → Contains xs v → Contains ys v → ⊥
apart xs ys v h here there = both_ways (list_any (eqb v) xs) (distinct_apart xs ys v h (is_there v ys there)) (is_there v xs here)

pub distinct_cons : (v : ℕ) (xs : List ℕ) → (Contains xs v → ⊥) → IsDistinct eqb xs → IsDistinct eqb (v ∷ xs)
distinct_cons v xs free h =
    IsDistinct-cons eqb v xs (each_from v xs (false_from_ne_true (list_any (eqb v) xs) (λ e. free (there_is v xs e)))) h

pub distinct_right : (xs ys : List ℕ) → IsDistinct eqb (xs ++ ys) → IsDistinct eqb ys
distinct_right [] ys h = h
distinct_right (x ∷ xs) ys h = distinct_right xs ys (IsDistinct-tail eqb x (xs ++ ys) h)

pub contains_with : (x : ℕ) (xs ys : List ℕ) (v : ℕ) → Contains (xs ++ ys) x → Contains (xs ++ v ∷ ys) x
contains_with x xs ys v c =
    elim (Contains-append_cases xs ys x c) [
      | inl here ↦ Contains-append_left xs (v ∷ ys) x here
      | inr there ↦ Contains-append_right xs (v ∷ ys) x (contains_later x v ys there)
    ]

-- one is taken out
pub distinct_without : (xs ys : List ℕ) (v : ℕ) → IsDistinct eqb (xs ++ v ∷ ys) → IsDistinct eqb (xs ++ ys)
distinct_without [] ys v h = IsDistinct-tail eqb v ys h
distinct_without (x ∷ xs) ys v h =
    distinct_cons x (xs ++ ys) (λ c. apart (x ∷ []) (xs ++ v ∷ ys) x h (contains_here x []) (contains_with x xs ys v c)) (distinct_without xs ys v (IsDistinct-tail eqb x (xs ++ v ∷ ys) h))

-- what isn't the one that is taken out stays
pub contains_without : (x : ℕ) (xs ys : List ℕ) (v : ℕ) → x ≢ v → Contains (xs ++ v ∷ ys) x → Contains (xs ++ ys) x
contains_without x xs ys v ne c =
    elim (Contains-append_cases xs (v ∷ ys) x c) [
      | inl here ↦ Contains-append_left xs ys x here
      | inr there ↦ elim (contains_where x v ys there) [
        | inl e ↦ absurd (omega arith)
        | inr later ↦ Contains-append_right xs ys x later
      ]
    ]

-- and the one that is taken out is gone
pub taken_out : (xs ys : List ℕ) (v : ℕ) → IsDistinct eqb (xs ++ v ∷ ys) → Contains (xs ++ ys) v → ⊥
taken_out xs ys v h c =
    elim (Contains-append_cases xs ys v c) [
      | inl here ↦ apart xs (v ∷ ys) v h here (contains_here v ys)
      | inr there ↦ apart (v ∷ []) ys v (distinct_right xs (v ∷ ys) h) (contains_here v []) there
    ]

pub few_below : (xs : List ℕ) (n : ℕ) → IsDistinct eqb xs → ((v : ℕ) → Contains xs v → v < n) → length xs ≤ n
few_below xs n h below = length-le_from_distinct_below xs n h (λ q e. below q (there_is q xs e))

-- what stands once has one place, so the rest is the same however it's taken out
pub same_rest : (xs ys : List ℕ) (v : ℕ) (zs ws : List ℕ) → IsDistinct eqb (xs ++ v ∷ ys) → xs ++ v ∷ ys ≡ zs ++ v ∷ ws → xs ++ ys ≡ zs ++ ws
same_rest [] ys v [] ws h e = cc
same_rest [] ys v (z ∷ zs) ws h e =
    let rest : ys ≡ zs ++ v ∷ ws = cc in
    let P : List ℕ → Type 0 = λ r. Contains r v in
    absurd (apart (v ∷ []) ys v h (contains_here v []) (subst P (sym rest) (Contains-append_right zs (v ∷ ws) v (contains_here v ws))))
same_rest (x ∷ xs) ys v [] ws h e =
    let first : x ≡ v = cc in
    let P : ℕ → Type 0 = λ y. Contains (xs ++ v ∷ ys) y in
    absurd (apart (x ∷ []) (xs ++ v ∷ ys) x h (contains_here x []) (subst P (sym first) (Contains-append_right xs (v ∷ ys) v (contains_here v ys))))
same_rest (x ∷ xs) ys v (z ∷ zs) ws h e =
    let first : x ≡ z = cc in
    let rest : xs ++ v ∷ ys ≡ zs ++ v ∷ ws = cc in
    ap (λ r. x ∷ r) (same_rest xs ys v zs ws (IsDistinct-tail eqb x (xs ++ v ∷ ys) h) rest) ∙ ap (λ y. y ∷ (zs ++ ws)) first
