-- What a line spells, and what is read of it: the same.
use Rattle.std.proofs.Common.{◌≡◌, ◌≢◌, ℕ, ◌<◌, ◌^◌, Bool, true, false, cond, ◌&&◌, ◌||◌, eqb, nat_lt, Option, Some, None, ◌⊎◌, inl, inr, List, [], ◌∷◌, length, refl, ap, ◌∙◌, subst, arith}
use Rattle.std.specs.Prelude.{codes, bytes_eq}
use Rattle.std.specs.List.{AllZip}
use Rattle.std.proofs.lemmas.Bool.Decides.{nat_tests}
use Rattle.std.proofs.lemmas.Slice.Eq.{bytes_eq-Decides}
use Rattle.text_words.specs.Numbers.{natural_of}
use Rattle.wit_text.specs.Reading.{status_of, small_number, property_of, value_of, bit_before, values_of, bits_of}
use Rattle.wit_text.specs.WitnessText.{SpellsBit, SpellsBits, SpellsProperty}
use Rattle.wit_text.proofs.Values.{bits-values, bits-wide}

-- something is read, or nothing
pub some-or-none : {A : Type 0} (o : Option A) → (o ≡ None) ⊎ ((a : A) × (o ≡ Some a))
some-or-none None = inl refl
some-or-none (Some a) = inr (a, refl)

pub none-clash : {A : Type 0} (o : Option A) (a : A) → o ≡ None → o ≡ Some a → ⊥
none-clash o a p q = cc

-- ---- lines with one text

pub same-text : (l text : List ℕ) → l ≡ text → bytes_eq l text ≡ true
same-text l text e = (bytes_eq-Decides l text).1 e

pub from-same : (l text : List ℕ) → bytes_eq l text ≡ true → l ≡ text
from-same l text e = (bytes_eq-Decides l text).0 e

pub from-other : (l text : List ℕ) → bytes_eq l text ≡ false → l ≢ text
from-other l text e same = clash (bytes_eq l text) (same-text l text same) e
  where
    clash : (t : Bool) → t ≡ true → t ≡ false → ⊥
    clash true p q = cc
    clash false p q = cc

pub other-text : (l text : List ℕ) → l ≢ text → bytes_eq l text ≡ false
other-text l text e = step (bytes_eq l text) refl
  where
    step : (t : Bool) → bytes_eq l text ≡ t → t ≡ false
    step true h = absurd (e (from-same l text h))
    step false h = refl

-- ---- the status

pub status-read : (l : List ℕ) → l ≡ codes "1" → status_of l ≡ Some tt
status-read l e = ap (λ t. cond t (Some tt) None) (same-text l (codes "1") e)

pub status-not : (l : List ℕ) → l ≢ codes "1" → status_of l ≡ None
status-not l e = ap (λ t. cond t (Some tt) None) (other-text l (codes "1") e)

-- ---- the property

pub property-read : (l : List ℕ) (p : ℕ) → SpellsProperty l p → property_of l ≡ Some p
property-read l p s =
    let few : nat_lt (length s.digits) 11 ≡ true = grind (arith, nat_tests, s.few) in
    let small : nat_lt p (2 ^ 32) ≡ true = grind (arith, nat_tests, s.small) in
    ap property_of s.form ∙ ap (λ t. cond t (small_number (natural_of s.digits)) None) few ∙ ap small_number s.value ∙ ap (λ t. cond t (Some p) None) small

small-spells : (o : Option ℕ) (p : ℕ) → small_number o ≡ Some p → (o ≡ Some p) × (p < 2 ^ 32)
small-spells None p e = cc
small-spells (Some n) p e =
    let step : (t : Bool) → nat_lt n (2 ^ 32) ≡ t → cond t (Some n) None ≡ Some p → (Some n ≡ Some p) × (p < 2 ^ 32) = λ t. elim t as (λ t. nat_lt n (2 ^ 32) ≡ t → cond t (Some n) None ≡ Some p → (Some n ≡ Some p) × (p < 2 ^ 32)) [
      | true ↦ λ q h. let same : n ≡ p = cc in (h, subst (λ (k : ℕ). k < 2 ^ 32) same (grind (arith, nat_tests, q)))
      | false ↦ λ q h. cc
    ] in
    step (nat_lt n (2 ^ 32)) refl e

pub property-spells : (l : List ℕ) (p : ℕ) → property_of l ≡ Some p → SpellsProperty l p
property-spells [] p e = cc
property-spells (b ∷ digits) p e =
    let Goal : Type 0 = SpellsProperty (b ∷ digits) p in
    let few_step : b ≡ 98 → (t : Bool) → nat_lt (length digits) 11 ≡ t → cond t (small_number (natural_of digits)) None ≡ Some p → Goal = λ letter t. elim t as (λ t. nat_lt (length digits) 11 ≡ t → cond t (small_number (natural_of digits)) None ≡ Some p → Goal) [
      | true ↦ λ q h.
          let value = small-spells (natural_of digits) p h in
          record { digits = digits; form = ap (λ (x : ℕ). x ∷ digits) letter; few = grind (arith, nat_tests, q); value = value.0; small = value.1 }
      | false ↦ λ q h. cc
    ] in
    let step : (t : Bool) → eqb b 98 ≡ t → cond (t && nat_lt (length digits) 11) (small_number (natural_of digits)) None ≡ Some p → Goal = λ t. elim t as (λ t. eqb b 98 ≡ t → cond (t && nat_lt (length digits) 11) (small_number (natural_of digits)) None ≡ Some p → Goal) [
      | true ↦ λ q h. few_step (grind (arith, nat_tests, q)) (nat_lt (length digits) 11) refl h
      | false ↦ λ q h. cc
    ] in
    step (eqb b 98) refl e

-- ---- values

value-read : (b : ℕ) (v : Bool) → SpellsBit b v → value_of b ≡ Some v
value-read b true e = let one : eqb b 49 ≡ true = grind (arith, nat_tests, e) in ap (λ t. cond t (Some true) (cond (eqb b 48 || eqb b 120) (Some false) None)) one
value-read b false e =
    let parts = elim e as (λ _. (eqb b 49 ≡ false) × ((eqb b 48 || eqb b 120) ≡ true)) [
      | inl zero ↦ (grind (arith, nat_tests, zero), ap (λ (x : ℕ). eqb x 48 || eqb x 120) zero)
      | inr free ↦ (grind (arith, nat_tests, free), ap (λ (x : ℕ). eqb x 48 || eqb x 120) free)
    ] in
    ap (λ t. cond t (Some true) (cond (eqb b 48 || eqb b 120) (Some false) None)) parts.0 ∙ ap (λ t. cond t (Some false) None) parts.1

value-spells : (b : ℕ) (v : Bool) → value_of b ≡ Some v → SpellsBit b v
value-spells b v e =
    let free_step : (t : Bool) → eqb b 120 ≡ t → cond t (Some false) None ≡ Some v → SpellsBit b v = λ t. elim t as (λ t. eqb b 120 ≡ t → cond t (Some false) None ≡ Some v → SpellsBit b v) [
      | true ↦ λ q h. let same : false ≡ v = cc in subst (SpellsBit b) same (inr (grind (arith, nat_tests, q)))
      | false ↦ λ q h. cc
    ] in
    let zero_step : (t : Bool) → eqb b 48 ≡ t → cond (t || eqb b 120) (Some false) None ≡ Some v → SpellsBit b v = λ t. elim t as (λ t. eqb b 48 ≡ t → cond (t || eqb b 120) (Some false) None ≡ Some v → SpellsBit b v) [
      | true ↦ λ q h. let same : false ≡ v = cc in subst (SpellsBit b) same (inl (grind (arith, nat_tests, q)))
      | false ↦ λ q h. free_step (eqb b 120) refl h
    ] in
    let step : (t : Bool) → eqb b 49 ≡ t → cond t (Some true) (cond (eqb b 48 || eqb b 120) (Some false) None) ≡ Some v → SpellsBit b v = λ t. elim t as (λ t. eqb b 49 ≡ t → cond t (Some true) (cond (eqb b 48 || eqb b 120) (Some false) None) ≡ Some v → SpellsBit b v) [
      | true ↦ λ q h. let same : true ≡ v = cc in subst (SpellsBit b) same (grind (arith, nat_tests, q))
      | false ↦ λ q h. zero_step (eqb b 48) refl h
    ] in
    step (eqb b 49) refl e

values-read : (l : List ℕ) (bits : List Bool) → AllZip SpellsBit l bits → values_of l ≡ Some bits
values-read [] [] each = refl
values-read [] (v ∷ bits) each = absurd each
values-read (b ∷ l) [] each = absurd each
values-read (b ∷ l) (v ∷ bits) each = ap (λ o. bit_before o (values_of l)) (value-read b v each.0) ∙ ap (bit_before (Some v)) (values-read l bits each.1)

values-spell : (l : List ℕ) (bits : List Bool) → values_of l ≡ Some bits → AllZip SpellsBit l bits
values-spell [] bits e = let none : [] ≡ bits = cc in subst (AllZip SpellsBit []) none tt
values-spell (b ∷ l) bits e =
    let Goal : Type 0 = AllZip SpellsBit (b ∷ l) bits in
    let step : (o : Option Bool) (p : Option (List Bool)) → value_of b ≡ o → values_of l ≡ p → bit_before o p ≡ Some bits → Goal = λ o p. elim o as (λ o. value_of b ≡ o → values_of l ≡ p → bit_before o p ≡ Some bits → Goal) [
      | None ↦ λ f g h. cc
      | Some v ↦ elim p as (λ p. value_of b ≡ Some v → values_of l ≡ p → bit_before (Some v) p ≡ Some bits → Goal) [
        | None ↦ λ f g h. cc
        | Some vs ↦ λ f g h.
            let same : v ∷ vs ≡ bits = cc in
            subst (AllZip SpellsBit (b ∷ l)) same (value-spells b v f, values-spell l vs g)
      ]
    ] in
    step (value_of b) (values_of l) refl refl e

pub bits-read : (width : ℕ) (l : List ℕ) (bits : List Bool) → SpellsBits width l bits → bits_of width l ≡ Some bits
bits-read width l bits s = bits-values width l s.wide ∙ values-read l bits s.each

pub bits-spell : (width : ℕ) (l : List ℕ) (bits : List Bool) → bits_of width l ≡ Some bits → SpellsBits width l bits
bits-spell width l bits e = let h = bits-wide width l bits e in record { wide = h.0; each = values-spell l bits h.1 }

-- the line `.` spells no values
pub end-no_bits : (width : ℕ) (l : List ℕ) (bits : List Bool) → SpellsBits width l bits → l ≢ codes "."
end-no_bits width l bits s e = no (bits) (subst (λ (x : List ℕ). AllZip SpellsBit x bits) e s.each)
  where
    no : (bits : List Bool) → AllZip SpellsBit (codes ".") bits → ⊥
    no [] each = each
    no (true ∷ bits) each = omega (arith, each.0)
    no (false ∷ bits) each = elim each.0 as (λ _. ⊥) [
      | inl zero ↦ omega (arith, zero)
      | inr free ↦ omega (arith, free)
    ]
