-- What words of digits spell.
use Rattle.std.proofs.Common.{◌≡◌, ℕ, ◌-◌, ◌<◌, ◌≤◌, true, false, cond, Some, None, List, [], ◌∷◌, length, get_or, refl, ap, arith}
use Rattle.std.specs.Char.{is_ascii_digit, digit_value}
use Rattle.std.specs.Str.{all_ascii_digits}
use Rattle.std.specs.Str.Parse.{digits_value}
use Rattle.std.proofs.lemmas.List.Recursion.{and_fails_at, and_from_places}
use Rattle.std.proofs.lemmas.Bool.Decides.{nat_tests}
use Rattle.text_words.specs.Numbers.{natural_of}

pub natural_of-digits : (word : List ℕ) → 0 < length word → ((k : ℕ) → k < length word → is_ascii_digit (get_or word k 0) ≡ true)
    → natural_of word ≡ Some (digits_value 10 word)
natural_of-digits [] some each = absurd (omega arith)
natural_of-digits (b ∷ bs) some each =
    let all = and_from_places all_ascii_digits is_ascii_digit refl (λ _ _. refl) (b ∷ bs) 0 each in
    ap (λ t. cond t (Some (digits_value 10 (b ∷ bs))) None) all

pub natural_of-other : (word : List ℕ) (k : ℕ) → k < length word → is_ascii_digit (get_or word k 0) ≡ false → natural_of word ≡ None
natural_of-other [] k h other = absurd (omega arith)
natural_of-other (b ∷ bs) k h other =
    let all = and_fails_at all_ascii_digits is_ascii_digit refl (λ _ _. refl) (b ∷ bs) k 0 h other in
    ap (λ t. cond t (Some (digits_value 10 (b ∷ bs))) None) all

-- a digit's value
pub digit_value-digit : (b : ℕ) → is_ascii_digit b ≡ true → (48 ≤ b) × (digit_value b ≡ b - 48)
digit_value-digit b e = grind (arith, nat_tests)
