-- Lines, words and numbers of a text that was written.
use Rattle.std.proofs.Common.{◌≡◌, ◌==◌, ◌≢◌, ℕ, ◌<◌, ◌≤◌, ◌^◌, suc, true, false, cond, Some, None, ℤ, pos, negsuc, neg_ℤ, nat_abs, eqb, length-append, List, [], ◌∷◌, ◌++◌, length, filter, refl, ap, ◌∙◌, arith}
use Rattle.std.specs.Option.{option_map}
use Rattle.std.specs.List.{AllByRecursion}
use Rattle.std.specs.Fmt.{decimal, signed_decimal}
use Rattle.std.specs.Str.{all_ascii_digits}
use Rattle.std.specs.Str.Parse.{AllDigits, digits_value}
use Rattle.std.proofs.lemmas.Bool.Decides.{nat_tests}
use Rattle.std.proofs.lemmas.List.Elements.{All-from_recursion}
use Rattle.std.proofs.lemmas.List.Splits.{slice_split_at, slice_split_none}
use Rattle.std.proofs.lemmas.Str.Parse.{digit_from_value, tells_all_ascii_digits, numerals_by_value}
use Rattle.std.proofs.lemmas.Fmt.{decimal_is_IsNumeral}
use Rattle.text_words.specs.Lines.{lines}
use Rattle.text_words.specs.Text.{line_bytes, behind_newline}
use Rattle.text_words.specs.Words.{is_some_word, words, separates, content}
use Rattle.text_words.specs.Numbers.{natural_of, integer_of}
use Rattle.text_words.specs.declared.words.Separators.{Separators}
use Rattle.text_words.specs.declared.words.Separators.TheVariants.{Spaces, Blanks}
use Rattle.text_words.proofs.Fields.{ends_line-plain}
use Rattle.text_words.proofs.Splitting.{lines-next, is_some_word-long}

-- a byte that is neither a separator nor a line's end
abbrev pub IsGraphic : ℕ → Type 0
IsGraphic b = 33 ≤ b

-- a byte that ends no line
abbrev pub IsInLine : ℕ → Type 0
IsInLine b = (b ≢ 10) × (b ≢ 13)

pub each-append : {A : Type 0} (P : A → Type 0) (xs ys : List A) → AllByRecursion P xs → AllByRecursion P ys → AllByRecursion P (xs ++ ys)
each-append P [] ys px py = py
each-append P (x ∷ xs) ys px py = (px.0, each-append P xs ys px.1 py)

pub each-weaker : {A : Type 0} (P Q : A → Type 0) → ((x : A) → P x → Q x) → (xs : List A) → AllByRecursion P xs → AllByRecursion Q xs
each-weaker P Q f [] p = tt
each-weaker P Q f (x ∷ xs) p = (f x p.0, each-weaker P Q f xs p.1)

pub graphic-in_line : (b : ℕ) → IsGraphic b → IsInLine b
graphic-in_line b h = (omega arith, omega arith)

-- ---- lines

line_bytes-written : (line rest : List ℕ) → AllByRecursion IsInLine line → line_bytes (line ++ 10 ∷ rest) ≡ line
line_bytes-written [] rest each = refl
line_bytes-written (b ∷ bs) rest each =
    ap (λ t. cond t [] (b ∷ line_bytes (bs ++ 10 ∷ rest))) (ends_line-plain b (bs ++ 10 ∷ rest) each.0) ∙ ap (λ l. b ∷ l) (line_bytes-written bs rest each.1)

behind_newline-written : (line rest : List ℕ) → AllByRecursion IsInLine line → behind_newline (line ++ 10 ∷ rest) ≡ rest
behind_newline-written [] rest each = refl
behind_newline-written (b ∷ bs) rest each =
    let other : b ≢ 10 = each.0.0 in
    let test : eqb b 10 ≡ false = grind (arith, nat_tests, other) in
    ap (λ t. cond t (bs ++ 10 ∷ rest) (behind_newline (bs ++ 10 ∷ rest))) test ∙ behind_newline-written bs rest each.1

pub lines-written : (line rest : List ℕ) → AllByRecursion IsInLine line → lines (line ++ 10 ∷ rest) ≡ line ∷ lines rest
lines-written line rest each =
    let text = line ++ 10 ∷ rest in
    lines-next text (omega (arith, length-append line (10 ∷ rest))) ∙ ap (λ l. l ∷ lines (behind_newline text)) (line_bytes-written line rest each)
    ∙ ap (λ bs. line ∷ lines bs) (behind_newline-written line rest each)

-- ---- words

graphic-tests : (by : Separators) (b : ℕ) → IsGraphic b → separates by b ≡ false
graphic-tests Spaces b h = grind (arith, nat_tests, h)
graphic-tests Blanks b h = grind (arith, nat_tests, h)

space-test : (by : Separators) → separates by 32 ≡ true
space-test Spaces = refl
space-test Blanks = refl

pub words-written : (by : Separators) (word : List ℕ) (rest : List ℕ) → 0 < length word → AllByRecursion IsGraphic word → words by (word ++ 32 ∷ rest) ≡ word ∷ words by rest
words-written by word rest some each =
    let plain : AllByRecursion (λ b. separates by b ≡ false) word = each-weaker IsGraphic (λ b. separates by b ≡ false) (graphic-tests by) word each in
    ap (filter is_some_word) (slice_split_at (separates by) word 32 rest (All-from_recursion (λ b. separates by b ≡ false) word plain) (space-test by))
    ∙ ap (λ t. cond t (word ∷ words by rest) (words by rest)) (is_some_word-long word some)

pub words-written-last : (by : Separators) (word : List ℕ) → 0 < length word → AllByRecursion IsGraphic word → words by word ≡ word ∷ []
words-written-last by word some each =
    let plain : AllByRecursion (λ b. separates by b ≡ false) word = each-weaker IsGraphic (λ b. separates by b ≡ false) (graphic-tests by) word each in
    ap (filter is_some_word) (slice_split_none (separates by) word (All-from_recursion (λ b. separates by b ≡ false) word plain))
    ∙ ap (λ t. cond t (word ∷ []) []) (is_some_word-long word some)

-- ---- numbers

abbrev pub IsDigit : ℕ → Type 0
IsDigit b = (48 ≤ b) × (b ≤ 57)

digits-bytes : (ds : List ℕ) → AllDigits 10 ds → AllByRecursion IsDigit ds
digits-bytes [] all = tt
digits-bytes (d ∷ ds) all = let h = digit_from_value d all.0 in ((h.0, h.1), digits-bytes ds all.1)

pub decimal-digits : (n : ℕ) → n < 2 ^ 64 → AllByRecursion IsDigit (decimal n)
decimal-digits n few = digits-bytes (decimal n) (decimal_is_IsNumeral n few).0.1

pub decimal-some : (n : ℕ) → n < 2 ^ 64 → 0 < length (decimal n)
decimal-some n few = (decimal_is_IsNumeral n few).0.0

pub signed_decimal-graphic : (z : ℤ) → nat_abs z < 2 ^ 64 → AllByRecursion IsGraphic (signed_decimal z)
signed_decimal-graphic (pos n) few = each-weaker IsDigit IsGraphic (λ b h. omega arith) (decimal n) (decimal-digits n few)
signed_decimal-graphic (negsuc n) few = (omega arith, each-weaker IsDigit IsGraphic (λ b h. omega arith) (decimal (suc n)) (decimal-digits (suc n) (omega arith)))

pub signed_decimal-some : (z : ℤ) → nat_abs z < 2 ^ 64 → 0 < length (signed_decimal z)
signed_decimal-some (pos n) few = decimal-some n few
signed_decimal-some (negsuc n) few = omega arith

natural_of-all : (word : List ℕ) → 0 < length word → all_ascii_digits word ≡ true → natural_of word ≡ Some (digits_value 10 word)
natural_of-all [] some all = absurd (omega arith)
natural_of-all (b ∷ bs) some all = ap (λ t. cond t (Some (digits_value 10 (b ∷ bs))) None) all

pub natural_of-decimal : (n : ℕ) → n < 2 ^ 64 → natural_of (decimal n) ≡ Some n
natural_of-decimal n few =
    let numeral = decimal_is_IsNumeral n few in
    let model = numerals_by_value (λ ds. all_ascii_digits ds ≡ true) tells_all_ascii_digits in
    natural_of-all (decimal n) numeral.0.0 (model.from (decimal n) numeral.0.1) ∙ ap (λ v. Some v) numeral.1

unsigned : (word : List ℕ) → 0 < length word → AllByRecursion IsDigit word → integer_of word ≡ option_map (λ n. pos n) (natural_of word)
unsigned [] some each = absurd (omega arith)
unsigned (b ∷ bs) some each =
    let other : (b == 45) ≡ false = let digit = each.0 in grind (arith, nat_tests) in
    ap (λ t. cond t (option_map (λ n. neg_ℤ (pos n)) (natural_of bs)) (option_map (λ n. pos n) (natural_of (b ∷ bs)))) other

pub integer_of-signed_decimal : (z : ℤ) → nat_abs z < 2 ^ 64 → integer_of (signed_decimal z) ≡ Some z
integer_of-signed_decimal (pos n) few = unsigned (decimal n) (decimal-some n few) (decimal-digits n few) ∙ ap (option_map (λ n. pos n)) (natural_of-decimal n few)
integer_of-signed_decimal (negsuc n) few = ap (option_map (λ n. neg_ℤ (pos n))) (natural_of-decimal (suc n) (omega arith))

-- ---- comments

abbrev pub IsLow : ℕ → Type 0
IsLow b = b < 58

pub signed_decimal-low : (z : ℤ) → nat_abs z < 2 ^ 64 → AllByRecursion IsLow (signed_decimal z)
signed_decimal-low (pos n) few = each-weaker IsDigit IsLow (λ b h. omega arith) (decimal n) (decimal-digits n few)
signed_decimal-low (negsuc n) few = (omega arith, each-weaker IsDigit IsLow (λ b h. omega arith) (decimal (suc n)) (decimal-digits (suc n) (omega arith)))

-- a line that begins with a number is no comment
pub content-number : (by : Separators) (word rest : List ℕ) → 0 < length word → AllByRecursion IsLow word → content by (word ++ rest) ≡ words by (word ++ rest)
content-number by [] rest some low = absurd (omega arith)
content-number by (b ∷ bs) rest some low =
    let other : (b == 99) ≡ false = let small = low.0 in grind (arith, nat_tests) in
    ap (λ t. cond t [] (words by (b ∷ bs ++ rest))) other
