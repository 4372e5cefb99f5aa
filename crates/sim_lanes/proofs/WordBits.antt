-- Words bit by bit.
use Rattle.std.proofs.Common.{◌≡◌, ℕ, zero, suc, ◌-◌, ◌^◌, ◌<◌, min, max, Bool, true, false, ◌&&◌, ◌||◌, not, cond, nat_eq, refl, ap, ◌∙◌, arith, w64}
use Rattle.std.proofs.lemmas.Nat.Bits.{bit_at_and, bit_at_or, bit_at_not, bit_at_ones, bit_at-lt, bit_at-zero}
use Rattle.std.specs.Int.{bit_at, bit_not}
use lib.Bits.{bit_and, bit_or}
use Rattle.sim_batch.specs.Words.{bit_of_word}

-- ---- digits
least_digit : (x y : ℕ) → x < 2 → y < 2 → nat_eq (min x y) 1 ≡ (nat_eq x 1 && nat_eq y 1)
least_digit zero zero l m = refl
least_digit zero (suc zero) l m = refl
least_digit zero (suc (suc y)) l m = absurd (omega (arith, m))
least_digit (suc zero) zero l m = refl
least_digit (suc zero) (suc zero) l m = refl
least_digit (suc zero) (suc (suc y)) l m = absurd (omega (arith, m))
least_digit (suc (suc x)) y l m = absurd (omega (arith, l))

greatest_digit : (x y : ℕ) → x < 2 → y < 2 → nat_eq (max x y) 1 ≡ (nat_eq x 1 || nat_eq y 1)
greatest_digit zero zero l m = refl
greatest_digit zero (suc zero) l m = refl
greatest_digit zero (suc (suc y)) l m = absurd (omega (arith, m))
greatest_digit (suc zero) zero l m = refl
greatest_digit (suc zero) (suc zero) l m = refl
greatest_digit (suc zero) (suc (suc y)) l m = absurd (omega (arith, m))
greatest_digit (suc (suc x)) y l m = absurd (omega (arith, l))

other_digit : (x : ℕ) → x < 2 → nat_eq (1 - x) 1 ≡ not (nat_eq x 1)
other_digit zero l = refl
other_digit (suc zero) l = refl
other_digit (suc (suc x)) l = absurd (omega (arith, l))

-- ---- words
pub bit-and : (j a b : ℕ) → bit_of_word j (bit_and a b) ≡ (bit_of_word j a && bit_of_word j b)
bit-and j a b = ap (λ x. nat_eq x 1) (bit_at_and a b j) ∙ least_digit (bit_at a j) (bit_at b j) (bit_at-lt a j) (bit_at-lt b j)

pub bit-or : (j a b : ℕ) → bit_of_word j (bit_or a b) ≡ (bit_of_word j a || bit_of_word j b)
bit-or j a b = ap (λ x. nat_eq x 1) (bit_at_or a b j) ∙ greatest_digit (bit_at a j) (bit_at b j) (bit_at-lt a j) (bit_at-lt b j)

pub bit-not : (j a : ℕ) → a < 2 ^ 64 → j < 64 → bit_of_word j (bit_not w64 a) ≡ not (bit_of_word j a)
bit-not j a fits inside = ap (λ x. nat_eq x 1) (bit_at_not w64 a j fits inside) ∙ other_digit (bit_at a j) (bit_at-lt a j)

pub bit-none : (j : ℕ) → bit_of_word j 0 ≡ false
bit-none j = ap (λ x. nat_eq x 1) (bit_at-zero j)

pub bit-every : (j : ℕ) → j < 64 → bit_of_word j (2 ^ 64 - 1) ≡ true
bit-every j inside = ap (λ x. nat_eq x 1) (bit_at_ones 64 j inside)

-- the lanes of a mask take one word, and the others another
chosen_digit : (m y n : Bool) → ((y && m) || (n && not m)) ≡ cond m y n
chosen_digit true true true = refl
chosen_digit true true false = refl
chosen_digit true false true = refl
chosen_digit true false false = refl
chosen_digit false true true = refl
chosen_digit false true false = refl
chosen_digit false false true = refl
chosen_digit false false false = refl

pub bit-chosen : (j mask on off : ℕ) → mask < 2 ^ 64 → j < 64
    → bit_of_word j (bit_or (bit_and on mask) (bit_and off (bit_not w64 mask))) ≡ cond (bit_of_word j mask) (bit_of_word j on) (bit_of_word j off)
bit-chosen j mask on off fits inside =
    bit-or j (bit_and on mask) (bit_and off (bit_not w64 mask))
    ∙ (ap (λ x. x || bit_of_word j (bit_and off (bit_not w64 mask))) (bit-and j on mask)
    ∙ (ap (λ x. (bit_of_word j on && bit_of_word j mask) || x) (bit-and j off (bit_not w64 mask) ∙ ap (λ x. bit_of_word j off && x) (bit-not j mask fits inside))
    ∙ chosen_digit (bit_of_word j mask) (bit_of_word j on) (bit_of_word j off)))
