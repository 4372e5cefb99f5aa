-- The values that a line spells, from the first character on.
use Rattle.std.proofs.Common.{◌≡◌, ℕ, zero, suc, ◌+◌, ◌<◌, Bool, true, false, cond, Option, Some, None, List, [], ◌∷◌, ◌++◌, length, take, get_or, refl, sym, ap, ◌∙◌, arith, nat_eq}
use Rattle.std.proofs.lemmas.Bool.Decides.{nat_tests}
use Rattle.std.proofs.lemmas.List.{take_more}
use Rattle.wit_text.specs.Reading.{value_of, bit_before, values_of, bits_of}

values-push : (bs : List ℕ) (bits : List Bool) (b : ℕ) (v : Bool) → values_of bs ≡ Some bits → value_of b ≡ Some v → values_of (bs ++ b ∷ []) ≡ Some (bits ++ v ∷ [])
values-push [] bits b v e f =
    let none : bits ≡ [] = cc in
    ap (λ o. bit_before o (Some [])) f ∙ ap (λ xs. Some (xs ++ v ∷ [])) (sym none)
values-push (x ∷ bs) bits b v e f =
    let step : (o : Option Bool) (p : Option (List Bool)) → values_of bs ≡ p → bit_before o p ≡ Some bits → bit_before o (values_of (bs ++ b ∷ [])) ≡ Some (bits ++ v ∷ []) = λ o p. elim o as (λ o. values_of bs ≡ p → bit_before o p ≡ Some bits → bit_before o (values_of (bs ++ b ∷ [])) ≡ Some (bits ++ v ∷ [])) [
      | None ↦ λ q h. cc
      | Some w ↦ elim p as (λ p. values_of bs ≡ p → bit_before (Some w) p ≡ Some bits → bit_before (Some w) (values_of (bs ++ b ∷ [])) ≡ Some (bits ++ v ∷ [])) [
        | None ↦ λ q h. cc
        | Some ws ↦ λ q h.
            let same : w ∷ ws ≡ bits = cc in
            ap (bit_before (Some w)) (values-push bs ws b v q f) ∙ ap (λ xs. Some (xs ++ v ∷ [])) same
      ]
    ] in
    step (value_of x) (values_of bs) refl e

-- one character more
pub values-more : (line : List ℕ) (i : ℕ) (bits : List Bool) (v : Bool) → i < length line → values_of (take i line) ≡ Some bits → value_of (get_or line i 0) ≡ Some v
    → values_of (take (i + 1) line) ≡ Some (bits ++ v ∷ [])
values-more line i bits v within e f = ap values_of (take_more line i 0 within) ∙ values-push (take i line) bits (get_or line i 0) v e f

-- a character that is no value
pub values-none : (line : List ℕ) (i : ℕ) → i < length line → value_of (get_or line i 0) ≡ None → values_of line ≡ None
values-none [] i within e = absurd (omega (arith, within))
values-none (b ∷ bs) zero within e = ap (λ o. bit_before o (values_of bs)) e
values-none (b ∷ bs) (suc i) within e = ap (bit_before (value_of b)) (values-none bs i (omega arith) e) ∙ none (value_of b)
  where
    none : (o : Option Bool) → bit_before o None ≡ None
    none None = refl
    none (Some v) = refl

pub bits-values : (width : ℕ) (line : List ℕ) → length line ≡ width → bits_of width line ≡ values_of line
bits-values width line wide =
    let same : nat_eq (length line) width ≡ true = grind (arith, nat_tests, wide) in
    ap (λ t. cond t (values_of line) None) same

pub bits-wide : (width : ℕ) (line : List ℕ) (bits : List Bool) → bits_of width line ≡ Some bits → (length line ≡ width) × (values_of line ≡ Some bits)
bits-wide width line bits e =
    let step : (t : Bool) → nat_eq (length line) width ≡ t → cond t (values_of line) None ≡ Some bits → (length line ≡ width) × (values_of line ≡ Some bits) = λ t. elim t as (λ t. nat_eq (length line) width ≡ t → cond t (values_of line) None ≡ Some bits → (length line ≡ width) × (values_of line ≡ Some bits)) [
      | true ↦ λ q h. (grind (arith, nat_tests, q), h)
      | false ↦ λ q h. cc
    ] in
    step (nat_eq (length line) width) refl e

pub values-length : (line : List ℕ) (bits : List Bool) → values_of line ≡ Some bits → length bits ≡ length line
values-length [] bits e = let none : bits ≡ [] = cc in ap length none
values-length (b ∷ bs) bits e =
    let step : (o : Option Bool) (p : Option (List Bool)) → values_of bs ≡ p → bit_before o p ≡ Some bits → length bits ≡ suc (length bs) = λ o p. elim o as (λ o. values_of bs ≡ p → bit_before o p ≡ Some bits → length bits ≡ suc (length bs)) [
      | None ↦ λ q h. cc
      | Some w ↦ elim p as (λ p. values_of bs ≡ p → bit_before (Some w) p ≡ Some bits → length bits ≡ suc (length bs)) [
        | None ↦ λ q h. cc
        | Some ws ↦ λ q h.
            let same : w ∷ ws ≡ bits = cc in
            ap length (sym same) ∙ ap suc (values-length bs ws q)
      ]
    ] in
    step (value_of b) (values_of bs) refl e

-- a row that is read is as wide as it must be
pub bits-length : (width : ℕ) (line : List ℕ) (bits : List Bool) → bits_of width line ≡ Some bits → length bits ≡ width
bits-length width line bits e = let h = bits-wide width line bits e in values-length line bits h.1 ∙ h.0
