-- Runs of bytes at the front of a list.
use Rattle.std.proofs.Common.{◌≡◌, ℕ, ◌+◌, ◌-◌, ◌*◌, ◌<◌, min, Bool, true, false, cond, List, [], ◌∷◌, length, drop, get_or, sym, ap, ◌∙◌, arith, drop-cons, add-one}
use Rattle.std.specs.Char.{is_ascii_digit, digit_value}
use Rattle.std.proofs.lemmas.Bool.Decides.{nat_tests}
use Rattle.text_words.specs.Text.{digits_after, behind_digits}

-- the list from place i on, by its first byte
pub from-place : (i : ℕ) (bs : List ℕ) → i < length bs → drop i bs ≡ get_or bs i 0 ∷ drop (i + 1) bs
from-place i bs h = drop-cons bs i 0 h ∙ ap (λ n. get_or bs i 0 ∷ drop n bs) (sym (add-one i))

pub digits_after-digit : (n i : ℕ) (bs : List ℕ) → i < length bs → is_ascii_digit (get_or bs i 0) ≡ true
    → digits_after n (drop i bs) ≡ digits_after (n * 10 + digit_value (get_or bs i 0)) (drop (i + 1) bs)
digits_after-digit n i bs h d =
    ap (digits_after n) (from-place i bs h) ∙ ap (λ t. cond t (digits_after (n * 10 + digit_value (get_or bs i 0)) (drop (i + 1) bs)) n) d

pub digits_after-other : (n i : ℕ) (bs : List ℕ) → i < length bs → is_ascii_digit (get_or bs i 0) ≡ false → digits_after n (drop i bs) ≡ n
digits_after-other n i bs h d =
    ap (digits_after n) (from-place i bs h) ∙ ap (λ t. cond t (digits_after (n * 10 + digit_value (get_or bs i 0)) (drop (i + 1) bs)) n) d

pub behind_digits-digit : (i : ℕ) (bs : List ℕ) → i < length bs → is_ascii_digit (get_or bs i 0) ≡ true → behind_digits (drop i bs) ≡ behind_digits (drop (i + 1) bs)
behind_digits-digit i bs h d =
    ap behind_digits (from-place i bs h) ∙ ap (λ t. cond t (behind_digits (drop (i + 1) bs)) (get_or bs i 0 ∷ drop (i + 1) bs)) d

pub behind_digits-other : (i : ℕ) (bs : List ℕ) → i < length bs → is_ascii_digit (get_or bs i 0) ≡ false → behind_digits (drop i bs) ≡ drop i bs
behind_digits-other i bs h d =
    ap behind_digits (from-place i bs h) ∙ ap (λ t. cond t (behind_digits (drop (i + 1) bs)) (get_or bs i 0 ∷ drop (i + 1) bs)) d ∙ sym (from-place i bs h)

-- a number that is cut down to the greatest u64 stays so
pub digits_after-saturates : (m n : ℕ) (bs : List ℕ) → min m 18446744073709551615 ≡ min n 18446744073709551615
    → min (digits_after m bs) 18446744073709551615 ≡ min (digits_after n bs) 18446744073709551615
digits_after-saturates m n [] e = e
digits_after-saturates m n (b ∷ bs) e =
    let step : (t : Bool) → min (cond t (digits_after (m * 10 + digit_value b) bs) m) 18446744073709551615 ≡ min (cond t (digits_after (n * 10 + digit_value b) bs) n) 18446744073709551615 = λ t. elim t as (λ v. min (cond v (digits_after (m * 10 + digit_value b) bs) m) 18446744073709551615 ≡ min (cond v (digits_after (n * 10 + digit_value b) bs) n) 18446744073709551615) [
      | true ↦ digits_after-saturates (m * 10 + digit_value b) (n * 10 + digit_value b) bs (omega arith)
      | false ↦ e
    ] in
    step (is_ascii_digit b)

-- a digit's value
pub digit_value-digit : (b : ℕ) → is_ascii_digit b ≡ true → digit_value b ≡ b - 48
digit_value-digit b e = grind (arith, nat_tests)
