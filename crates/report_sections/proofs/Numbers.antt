-- Words of numbers tell the numbers, as they are written.
use Rattle.std.proofs.Common.{lit<, ◌≡◌, ℕ, ◌<◌, ◌^◌, ℤ, nat_abs, Bool, true, cond, Option, Some, None, [], ◌∷◌, refl, ap, ◌∙◌, subst, arith}
use Rattle.std.specs.Prelude.{◌&&◌, nat_lt, bytes_eq, decimal}
use Rattle.std.specs.Fmt.{signed_decimal}
use Rattle.std.proofs.lemmas.Bool.{and_parts}
use Rattle.std.proofs.lemmas.Bool.Decides.{nat_tests}
use Rattle.std.proofs.lemmas.Slice.Eq.{bytes_eq-Decides}
use Rattle.text_words.specs.Numbers.{natural_of, if_decimal, decimal_number_of, integer_of, if_below}
use Rattle.text_words.proofs.Written.{natural_of-decimal, integer_of-signed_decimal}
use Rattle.report_text.specs.Text.{Word, number_words}
use Rattle.report_text.proofs.Lines.{IsWord}
use Rattle.report_text.proofs.Pieces.{number_words-is_line}
use Rattle.report_lines.specs.Words.{if_small, small_of, if_written, signed_of, word, named, count_in}
use Rattle.report_sections.proofs.LineWords.{IsLineParse}
use Rattle.report_sections.proofs.Parses.{IsField, cond-some, word_parse, named_parse, whole_parse}
use Rattle.report_sections.proofs.Sections.{IsSmall}

below-true : (m n : ℕ) → nat_lt m n ≡ true → m < n
below-true m n e = grind (arith, nat_tests)

true-below : (m n : ℕ) → m < n → nat_lt m n ≡ true
true-below m n h = grind (arith, nat_tests)

-- ---- numbers of 64 bits
decimal-tells : (w : Word) (o : Option ℕ) (n : ℕ) → if_decimal w o ≡ Some n → (n < 2 ^ 64) × (decimal n ≡ w)
decimal-tells w None n e = cc
decimal-tells w (Some m) n e =
    let both = cond-some (nat_lt m (2 ^ 64) && bytes_eq (decimal m) w) m n e in
    let tests = and_parts (nat_lt m (2 ^ 64)) (bytes_eq (decimal m) w) both.0 in
    subst (λ (k : ℕ). (k < 2 ^ 64) × (decimal k ≡ w)) both.1 (below-true m (2 ^ 64) tests.0, (bytes_eq-Decides (decimal m) w).0 tests.1)

decimal-back : (n : ℕ) → n < 2 ^ 64 → decimal_number_of (decimal n) ≡ Some n
decimal-back n h =
    let test : (nat_lt n (2 ^ 64) && bytes_eq (decimal n) (decimal n)) ≡ true = ap (λ (b : Bool). b && bytes_eq (decimal n) (decimal n)) (true-below n (2 ^ 64) h) ∙ (bytes_eq-Decides (decimal n) (decimal n)).1 refl in
    ap (if_decimal (decimal n)) (natural_of-decimal n h) ∙ ap (λ (b : Bool). cond b (Some n) None) test

abbrev pub IsLong : ℕ → Type 0
IsLong n = n < 2 ^ 64

pub number_field : IsField IsLong decimal decimal_number_of
number_field = record { tells = λ w n e. decimal-tells w (natural_of w) n e; back = decimal-back }

-- ---- numbers of 32 bits
small-tells : (w : Word) (o : Option ℕ) (n : ℕ) → decimal_number_of w ≡ o → if_small o ≡ Some n → IsSmall n × (decimal n ≡ w)
small-tells w None n is e = cc
small-tells w (Some m) n is e =
    let both = cond-some (nat_lt m (2 ^ 32)) m n e in
    let told = decimal-tells w (natural_of w) m is in
    subst (λ (k : ℕ). (k < 2 ^ 32) × (decimal k ≡ w)) both.1 (below-true m (2 ^ 32) both.0, told.1)

pub small_field : IsField IsSmall decimal small_of
small_field = record {
  tells = λ w n e. small-tells w (decimal_number_of w) n refl e;
  back = λ n h. ap if_small (decimal-back n (omega arith)) ∙ ap (λ (b : Bool). cond b (Some n) None) (true-below n (2 ^ 32) h);
}

-- ---- numbers with a sign
abbrev pub HasSize : ℤ → Type 0
HasSize z = nat_abs z < 2 ^ 63

if_below-tells : (o : Option ℤ) (z : ℤ) → if_below (2 ^ 63) o ≡ Some z → HasSize z
if_below-tells None z e = cc
if_below-tells (Some y) z e =
    let both = cond-some (nat_lt (nat_abs y) (2 ^ 63)) y z e in
    subst (λ (x : ℤ). nat_abs x < 2 ^ 63) both.1 (below-true (nat_abs y) (2 ^ 63) both.0)

signed-tells : (w : Word) (o : Option ℤ) (z : ℤ) → if_below (2 ^ 63) (integer_of w) ≡ o → if_written w o ≡ Some z → HasSize z × (signed_decimal z ≡ w)
signed-tells w None z is e = cc
signed-tells w (Some y) z is e =
    let both = cond-some (bytes_eq (signed_decimal y) w) y z e in
    subst (λ (x : ℤ). (nat_abs x < 2 ^ 63) × (signed_decimal x ≡ w)) both.1 (if_below-tells (integer_of w) y is, (bytes_eq-Decides (signed_decimal y) w).0 both.0)

pub signed_field : IsField HasSize signed_decimal signed_of
signed_field = record {
  tells = λ w z e. signed-tells w (if_below (2 ^ 63) (integer_of w)) z refl e;
  back = λ z h.
      let w = signed_decimal z in
      ap (λ (o : Option ℤ). if_written w (if_below (2 ^ 63) o)) (integer_of-signed_decimal z (omega (arith, h)))
      ∙ (ap (λ (b : Bool). if_written w (cond b (Some z) None)) (true-below (nat_abs z) (2 ^ 63) h) ∙ ap (λ (b : Bool). cond b (Some z) None) ((bytes_eq-Decides w w).1 refl));
}

-- ---- a line with a name and a number
pub count_parse : (name : Word) → IsWord name → IsLineParse IsSmall (λ n. number_words name (n ∷ [])) (count_in name)
count_parse name w =
    whole_parse IsSmall (λ n. number_words name (n ∷ [])) (named name (word small_of)) 0 (named_parse IsSmall (λ n. decimal n ∷ []) name (word small_of) (word_parse IsSmall decimal small_of small_field))
    (λ n h. number_words-is_line name (n ∷ []) w (let small : n < 2 ^ 32 = h in omega arith, tt)) (lit< tt)
