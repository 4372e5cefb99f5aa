-- The numbers that words spell.
use Rattle.std.specs.Prelude.{ℕ, ◌^◌, ℤ, pos, neg_ℤ, nat_abs, nat_lt, ◌&&◌, bytes_eq, decimal, Option, Some, None, List, [], ◌∷◌, ◌==◌, if◌then◌else◌}
use Rattle.std.specs.Option.{option_map}
use Rattle.std.specs.Str.{all_ascii_digits}
use Rattle.std.specs.Str.Parse.{digits_value}

-- decimal digits, at least one, spell a natural number
abbrev pub natural_of : List ℕ → Option ℕ
natural_of [] = None
natural_of (b ∷ bs) = if all_ascii_digits (b ∷ bs) then Some (digits_value 10 (b ∷ bs)) else None

-- the number below 2^64 whose decimal text, without a sign and leading zeros, is the word
abbrev pub if_decimal : List ℕ → Option ℕ → Option ℕ
if_decimal word None = None
if_decimal word (Some n) = if nat_lt n (2 ^ 64) && bytes_eq (decimal n) word then Some n else None

abbrev pub decimal_number_of : List ℕ → Option ℕ
decimal_number_of word = if_decimal word (natural_of word)

-- with a minus sign before them, they spell its negation
abbrev pub integer_of : List ℕ → Option ℤ
integer_of [] = None
integer_of (b ∷ bs) =
    if b == 45 then option_map (λ n. neg_ℤ (pos n)) (natural_of bs) else option_map (λ n. pos n) (natural_of (b ∷ bs))

-- the integer that a word spells, where its size is below a bound
abbrev pub if_below : ℕ → Option ℤ → Option ℤ
if_below bound None = None
if_below bound (Some z) = if nat_lt (nat_abs z) bound then Some z else None
