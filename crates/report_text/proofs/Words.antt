-- The words of a report: numbers, bits, and fixed ones.
use Rattle.std.proofs.Common.{◌≡◌, ℕ, suc, ◌<◌, ◌^◌, ℤ, pos, negsuc, nat_abs, Bool, true, false, List, [], ◌∷◌, map, get_or, refl, sym, ap, arith}
use Rattle.std.specs.Prelude.{decimal}
use Rattle.std.specs.Fmt.{signed_decimal}
use Rattle.std.specs.List.{AllByRecursion}
use Rattle.std.specs.Str.Parse.{AllDigits}
use Rattle.std.proofs.lemmas.Bool.Decides.{nat_tests}
use Rattle.std.proofs.lemmas.Fmt.{decimal_is_IsNumeral, decimal_injective}
use Rattle.std.proofs.lemmas.Str.Parse.{digit_at}
use Rattle.wit_text.specs.WitnessText.{digit}
use Rattle.report_text.specs.Text.{Word}
use Rattle.report_text.proofs.Lines.{IsPlain, IsWord}

-- ---- numbers
digits-are_word : (ds : List ℕ) → AllDigits 10 ds → IsWord ds
digits-are_word [] h = tt
digits-are_word (c ∷ cs) h =
    let range = digit_at (c ∷ cs) 0 h (omega arith) in
    (record { newline = grind (arith, nat_tests, range); space = grind (arith, nat_tests, range) }, digits-are_word cs h.1)

pub decimal-is_word : (n : ℕ) → n < 2 ^ 64 → IsWord (decimal n)
decimal-is_word n h = digits-are_word (decimal n) ((decimal_is_IsNumeral n h).0.1)

abbrev pub AreNumbers : List ℕ → Type 0
AreNumbers ns = AllByRecursion (λ n. n < 2 ^ 64) ns

pub decimals-are_words : (ns : List ℕ) → AreNumbers ns → AllByRecursion IsWord (map decimal ns)
decimals-are_words [] h = tt
decimals-are_words (n ∷ ns) h = (decimal-is_word n h.0, decimals-are_words ns h.1)

pub decimals-injective : (ms ns : List ℕ) → AreNumbers ms → AreNumbers ns → map decimal ms ≡ map decimal ns → ms ≡ ns
decimals-injective [] [] p q e = refl
decimals-injective [] (n ∷ ns) p q e = cc
decimals-injective (m ∷ ms) [] p q e = cc
decimals-injective (m ∷ ms) (n ∷ ns) p q e =
    let heads : decimal m ≡ decimal n = cc in
    let tails : map decimal ms ≡ map decimal ns = cc in
    let head : m ≡ n = decimal_injective m n p.0 q.0 heads in
    let tail : ms ≡ ns = decimals-injective ms ns p.1 q.1 tails in
    cc

-- a number begins with no letter
pub decimal-no_letter : (n : ℕ) (w : Word) → n < 2 ^ 64 → 57 < get_or w 0 0 → decimal n ≡ w → ⊥
decimal-no_letter n w h letter e =
    let numeral = decimal_is_IsNumeral n h in
    let range = digit_at (decimal n) 0 numeral.0.1 (numeral.0.0) in
    omega (arith, range.1, ap (λ (v : Word). get_or v 0 0) e)

-- ---- numbers with a sign
pub signed-is_word : (z : ℤ) → nat_abs z < 2 ^ 63 → IsWord (signed_decimal z)
signed-is_word (pos n) h = decimal-is_word n (omega arith)
signed-is_word (negsuc n) h = (record { newline = refl; space = refl }, decimal-is_word (suc n) (omega arith))

no_sign : (m n : ℕ) → m < 2 ^ 64 → signed_decimal (pos m) ≡ signed_decimal (negsuc n) → ⊥
no_sign m n h e =
    let numeral = decimal_is_IsNumeral m h in
    let range = digit_at (decimal m) 0 numeral.0.1 (numeral.0.0) in
    omega (arith, range.0, ap (λ (v : Word). get_or v 0 0) e)

pub signed-injective : (y z : ℤ) → nat_abs y < 2 ^ 63 → nat_abs z < 2 ^ 63 → signed_decimal y ≡ signed_decimal z → y ≡ z
signed-injective (pos m) (pos n) h k e = ap (λ (i : ℕ). pos i) (decimal_injective m n (omega arith) (omega arith) e)
signed-injective (pos m) (negsuc n) h k e = absurd (no_sign m n (omega arith) e)
signed-injective (negsuc m) (pos n) h k e = absurd (no_sign n m (omega arith) (sym e))
signed-injective (negsuc m) (negsuc n) h k e =
    let tails : decimal (suc m) ≡ decimal (suc n) = cc in
    let more : suc m ≡ suc n = decimal_injective (suc m) (suc n) (omega arith) (omega arith) tails in
    let same : m ≡ n = omega arith in
    ap (λ (i : ℕ). negsuc i) same

-- ---- bits
pub digit-injective : (a b : Bool) → digit a ≡ digit b → a ≡ b
digit-injective true true e = refl
digit-injective false false e = refl
digit-injective true false e = absurd (omega (arith, e))
digit-injective false true e = absurd (omega (arith, e))

pub digits-injective : (a b : List Bool) → map digit a ≡ map digit b → a ≡ b
digits-injective [] [] e = refl
digits-injective [] (y ∷ b) e = cc
digits-injective (x ∷ a) [] e = cc
digits-injective (x ∷ a) (y ∷ b) e =
    let heads : digit x ≡ digit y = cc in
    let tails : map digit a ≡ map digit b = cc in
    let head : x ≡ y = digit-injective x y heads in
    let tail : a ≡ b = digits-injective a b tails in
    cc

digit-is_plain : (b : Bool) → IsPlain (digit b)
digit-is_plain true = record { newline = refl; space = refl }
digit-is_plain false = record { newline = refl; space = refl }

pub digits-are_bits_word : (bits : List Bool) → IsWord (map digit bits)
digits-are_bits_word [] = tt
digits-are_bits_word (b ∷ bits) = (digit-is_plain b, digits-are_bits_word bits)
