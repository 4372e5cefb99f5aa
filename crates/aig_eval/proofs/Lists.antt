-- Lists made of parts: what holds of the whole holds of each part.
use Rattle.std.proofs.Common.{◌≡◌, ◌≢◌, ℕ, ◌+◌, ◌<◌, inl, inr, List, [], ◌∷◌, ◌++◌, length, sym, ◌∙◌, arith, length-append, All, AllPairs, Contains}
use Rattle.std.proofs.lemmas.List.{get_or_append_left, get_or-append-add}
use Rattle.std.proofs.lemmas.List.Elements.{All-nil, All-cons}
use Rattle.std.proofs.lemmas.Bool.{cases_lt}
use Rattle.std.specs.List.{flat_map}
use Rattle.aig_model.proofs.Elements.{All-left, All-right}
use Rattle.ketch_base.specs.First.{IsFirst}

pub All-flat_map : {X Y : Type 0} (P : Y → Type 0) (f : X → List Y) (xs : List X) → All P (flat_map f xs) → All (λ x. All P (f x)) xs
All-flat_map P f [] all = All-nil (λ x. All P (f x))
All-flat_map P f (x ∷ xs) all =
    All-cons (λ x. All P (f x)) x xs (All-left P (f x) (flat_map f xs) all) (All-flat_map P f xs (All-right P (f x) (flat_map f xs) all))

-- ---- different elements
pub AllPairs-left : {X : Type 0} (R : X → X → Type 0) (xs ys : List X) → AllPairs R (xs ++ ys) → AllPairs R xs
AllPairs-left R xs ys pairs i j d l m =
    let inside : j < length (xs ++ ys) = omega (arith, length-append xs ys) in
    let first : i < length xs = omega arith in
    rw (get_or_append_left xs ys d i first, get_or_append_left xs ys d j m) at (pairs i j d l inside)

pub AllPairs-right : {X : Type 0} (R : X → X → Type 0) (xs ys : List X) → AllPairs R (xs ++ ys) → AllPairs R ys
AllPairs-right R xs ys pairs i j d l m =
    let inside : length xs + j < length (xs ++ ys) = omega (arith, length-append xs ys) in
    let below : length xs + i < length xs + j = omega arith in
    rw (get_or-append-add xs ys i d, get_or-append-add xs ys j d) at (pairs (length xs + i) (length xs + j) d below inside)

-- where all elements differ, no element stands in both parts
pub apart : {X : Type 0} (xs ys : List X) → AllPairs (λ v w. v ≢ w) (xs ++ ys) → (v : X) → Contains xs v → ¬ Contains ys v
apart xs ys once v left right =
    let below : left.0 < length xs + right.0 = omega (arith, left.1) in
    let inside : length xs + right.0 < length (xs ++ ys) = omega (arith, length-append xs ys, right.1) in
    once left.0 (length xs + right.0) v below inside
    ((get_or_append_left xs ys v left.0 left.1 ∙ left.2) ∙ sym (get_or-append-add xs ys right.0 v ∙ right.2))

-- ---- first places
-- there is one first place
pub first_once : (P : ℕ → Type 0) (j k : ℕ) → IsFirst P j → IsFirst P k → j ≡ k
first_once P j k first other =
    elim (cases_lt j k) [
      | inl l ↦ absurd (other.before j l first.here)
      | inr m ↦ elim (cases_lt k j) [ inl l ↦ absurd (first.before k l other.here) | inr n ↦ omega arith ]
    ]
