-- The line that goes on at a place: its bytes, its end, and its fields.
use Rattle.std.proofs.Common.{◌≡◌, ◌≢◌, ℕ, zero, suc, ◌+◌, ◌-◌, ◌*◌, ◌<◌, ◌≤◌, Bool, true, false, cond, ◌&&◌, ◌||◌, not, IsTrue, nat_lt, eqb, ◌++◌, List, [], ◌∷◌, length, take, drop, get_or, Some, None, refl, sym, ap, ◌∙◌, subst, arith, length-drop, length-append}
use Rattle.std.specs.Char.{is_ascii_digit, digit_value}
use Rattle.std.specs.List.{list_all}
use Rattle.std.specs.Str.{all_ascii_digits}
use Rattle.std.specs.Str.Parse.{digits_value_after}
use Rattle.std.proofs.lemmas.Bool.Decides.{nat_tests}
use Rattle.std.proofs.lemmas.List.{get_or-drop}
use Rattle.text_words.specs.Numbers.{natural_of}
use Rattle.text_words.specs.Text.{Rest, line_end, ends_line, line_bytes, has_newline, line_after, next_line, is_gap, word, later_fields, fields, PassesField, behind_spaces, digits_after, behind_newline, behind_digits}
use Rattle.text_words.specs.declared.cursor.LineEnd.{LineEnd}

-- ---- where a line ends

-- a byte within a line
abbrev pub IsPlain : ℕ → Type 0
IsPlain b = (b ≢ 10) × (b ≢ 13)

pub ends_line-plain : (b : ℕ) (bs : List ℕ) → IsPlain b → ends_line (b ∷ bs) ≡ false
ends_line-plain b bs p =
    let newline : eqb b 10 ≡ false = grind (arith, nat_tests, p.0) in
    let return : eqb b 13 ≡ false = grind (arith, nat_tests, p.1) in
    ap (λ t. t || (eqb b 13 && ends_line bs)) newline ∙ ap (λ t. t && ends_line bs) return

-- carriage returns, and then a newline or the end
pub ends_line-returns : (n : ℕ) (bs : List ℕ) → n ≤ length bs → ((k : ℕ) → k < n → get_or bs k 0 ≡ 13) → (n < length bs → get_or bs n 0 ≡ 10) → ends_line bs ≡ true
ends_line-returns n [] within returns end = refl
ends_line-returns zero (b ∷ bs) within returns end = let newline : eqb b 10 ≡ true = grind (arith, nat_tests, end (omega arith)) in ap (λ t. t || (eqb b 13 && ends_line bs)) newline
ends_line-returns (suc n) (b ∷ bs) within returns end =
    let first : b ≡ 13 = returns 0 (omega arith) in
    let rest = ends_line-returns n bs (omega arith) (λ k h. returns (suc k) (omega arith)) (λ h. end (omega arith)) in
    ap (λ x. (eqb x 10) || ((eqb x 13) && ends_line bs)) first ∙ rest

-- a byte within the line stands before its end
pub ends_line-byte : (n : ℕ) (bs : List ℕ) → n < length bs → ((k : ℕ) → k < n → get_or bs k 0 ≢ 10) → IsPlain (get_or bs n 0) → ends_line bs ≡ false
ends_line-byte n [] h before plain = absurd (omega arith)
ends_line-byte zero (b ∷ bs) h before plain = ends_line-plain b bs plain
ends_line-byte (suc n) (b ∷ bs) h before plain =
    let first : b ≢ 10 = before 0 (omega arith) in
    let newline : eqb b 10 ≡ false = grind (arith, nat_tests, first) in
    let rest = ends_line-byte n bs (omega arith) (λ k h. before (suc k) (omega arith)) plain in
    let step : (t : Bool) → (false || (t && false)) ≡ false = λ t. elim t as (λ v. (false || (v && false)) ≡ false) [ true ↦ refl | false ↦ refl ] in
    ap (λ t. t || (eqb b 13 && ends_line bs)) newline ∙ ap (λ t. false || (eqb b 13 && t)) rest ∙ step (eqb b 13)

-- the first place at which the line ends
pub line_bytes-is : (n : ℕ) (bs : List ℕ) → n ≤ length bs → ((k : ℕ) → k < n → ends_line (drop k bs) ≡ false) → ends_line (drop n bs) ≡ true → line_bytes bs ≡ take n bs
line_bytes-is zero [] within before end = refl
line_bytes-is (suc n) [] within before end = absurd (omega arith)
line_bytes-is zero (b ∷ bs) within before end = ap (λ t. cond t [] (b ∷ line_bytes bs)) end
line_bytes-is (suc n) (b ∷ bs) within before end =
    ap (λ t. cond t [] (b ∷ line_bytes bs)) (before 0 (omega arith)) ∙ ap (λ xs. b ∷ xs) (line_bytes-is n bs (omega arith) (λ k h. before (suc k) (omega arith)) end)

-- without the carriage returns before a newline or the end
pub line_bytes-trimmed : (bs : List ℕ) (e n : ℕ) → e ≤ n → n ≤ length bs → ((k : ℕ) → k < n → get_or bs k 0 ≢ 10) → (n < length bs → get_or bs n 0 ≡ 10)
    → ((k : ℕ) → e ≤ k → k < n → get_or bs k 0 ≡ 13) → (0 < e → get_or bs (e - 1) 0 ≢ 13) → line_bytes bs ≡ take e bs
line_bytes-trimmed bs e n order within before found returns last =
    let at : (i k : ℕ) → get_or (drop i bs) k 0 ≡ get_or bs (i + k) 0 = λ i k. get_or-drop i bs k 0 in
    line_bytes-is e bs (omega arith)
    (λ k h.
    let here : e - 1 < n = omega arith in
    let byte : get_or (drop k bs) (e - 1 - k) 0 ≡ get_or bs (e - 1) 0 = at k (e - 1 - k) ∙ ap (λ i. get_or bs i 0) (omega arith) in
    ends_line-byte (e - 1 - k) (drop k bs) (omega (arith, length-drop k bs))
    (λ j g f. before (k + j) (omega arith) (sym (at k j) ∙ f))
    ((λ f. before (e - 1) here (sym byte ∙ f)), (λ f. last (omega arith) (sym byte ∙ f))))
    (ends_line-returns (n - e) (drop e bs) (omega (arith, length-drop e bs)) (λ k h. at e k ∙ returns (e + k) (omega arith) (omega arith))
    (λ h. at e (n - e) ∙ ap (λ i. get_or bs i 0) (omega arith) ∙ found (omega (arith, length-drop e bs))))

-- ---- going on by a byte

-- what is left of a text of this size
abbrev pub rest_at : ℕ → List ℕ → Rest
rest_at size bs = record { at = size - length bs; bytes = bs }

-- the line goes on, and ends as it did
pub record Stays (old new : Rest) : Type 0 where
  pub end : line_end new ≡ line_end old
  pub next : next_line new ≡ next_line old

pub stays-refl : (r : Rest) → Stays r r
stays-refl r = record { end = refl; next = refl }

pub stays-trans : (q r s : Rest) → Stays q r → Stays r s → Stays q s
stays-trans q r s f g = record { end = g.end ∙ f.end; next = g.next ∙ f.next }

pub place-more : (size : ℕ) (b : ℕ) (bs : List ℕ) → length (b ∷ bs) ≤ size → (size - length (b ∷ bs)) + 1 ≡ size - length bs
place-more size b bs h = omega arith

pub stays-byte : (size b : ℕ) (bs : List ℕ) → length (b ∷ bs) ≤ size → IsPlain b → Stays (rest_at size (b ∷ bs)) (rest_at size bs)
stays-byte size b bs h p =
    let at = size - length (b ∷ bs) in
    let newline : eqb b 10 ≡ false = grind (arith, nat_tests, p.0) in
    let more = place-more size b bs h in
    let line : line_bytes (b ∷ bs) ≡ b ∷ line_bytes bs = ap (λ t. cond t [] (b ∷ line_bytes bs)) (ends_line-plain b bs p) in
    let first : size - length bs + length (line_bytes bs) ≡ at + length (line_bytes (b ∷ bs)) = omega (arith, ap length line) in
    let by : Bool → ℕ → ℕ → LineEnd = λ t m n. cond t (record { at = m; is_cut = false }) (record { at = n; is_cut = true }) in
    let last : size - length bs + length bs ≡ at + length (b ∷ bs) = omega arith in
    record {
      end = ap (λ m. by (has_newline bs) m (size - length bs + length bs)) first ∙ ap (λ n. by (has_newline bs) (at + length (line_bytes (b ∷ bs))) n) last
          ∙ ap (λ t. by (t || has_newline bs) (at + length (line_bytes (b ∷ bs))) (at + length (b ∷ bs))) (sym newline);
      next = ap (λ n. line_after n bs) (sym more) ∙ ap (λ t. cond t (record { at = at + 1; bytes = bs }) (line_after (at + 1) bs)) (sym newline);
    }

-- ---- digits, spaces, and a newline

-- a digit is no space, and no byte of a line's end
digit-plain : (b : ℕ) → is_ascii_digit b ≡ true → IsPlain b × (b ≢ 32)
digit-plain b d = ((λ e. grind (arith, nat_tests), λ e. grind (arith, nat_tests)), λ e. grind (arith, nat_tests))

space-plain : (b : ℕ) → eqb b 32 ≡ true → IsPlain b
space-plain b s = (λ e. grind (arith, nat_tests), λ e. grind (arith, nat_tests))

pub length-behind_digits : (bs : List ℕ) → length (behind_digits bs) ≤ length bs
length-behind_digits [] = omega arith
length-behind_digits (b ∷ bs) =
    let step : (t : Bool) → length (cond t (behind_digits bs) (b ∷ bs)) ≤ length (b ∷ bs) = λ t. elim t as (λ v. length (cond v (behind_digits bs) (b ∷ bs)) ≤ length (b ∷ bs)) [
      | true ↦ omega (arith, length-behind_digits bs)
      | false ↦ omega arith
    ] in
    step (is_ascii_digit b)

pub length-behind_spaces : (bs : List ℕ) → length (behind_spaces bs) ≤ length bs
length-behind_spaces [] = omega arith
length-behind_spaces (b ∷ bs) =
    let step : (t : Bool) → length (cond t (behind_spaces bs) (b ∷ bs)) ≤ length (b ∷ bs) = λ t. elim t as (λ v. length (cond v (behind_spaces bs) (b ∷ bs)) ≤ length (b ∷ bs)) [
      | true ↦ omega (arith, length-behind_spaces bs)
      | false ↦ omega arith
    ] in
    step (eqb b 32)

pub stays-digits : (size : ℕ) (bs : List ℕ) → length bs ≤ size → Stays (rest_at size bs) (rest_at size (behind_digits bs))
stays-digits size [] h = stays-refl (rest_at size [])
stays-digits size (b ∷ bs) h =
    let step : (t : Bool) → is_ascii_digit b ≡ t → Stays (rest_at size (b ∷ bs)) (rest_at size (cond t (behind_digits bs) (b ∷ bs))) = λ t. elim t as (λ v. is_ascii_digit b ≡ v → Stays (rest_at size (b ∷ bs)) (rest_at size (cond v (behind_digits bs) (b ∷ bs)))) [
      | true ↦ λ d. stays-trans (rest_at size (b ∷ bs)) (rest_at size bs) (rest_at size (behind_digits bs)) (stays-byte size b bs h (digit-plain b d).0) (stays-digits size bs (omega arith))
      | false ↦ λ d. stays-refl (rest_at size (b ∷ bs))
    ] in
    step (is_ascii_digit b) refl

pub stays-spaces : (size : ℕ) (bs : List ℕ) → length bs ≤ size → Stays (rest_at size bs) (rest_at size (behind_spaces bs))
stays-spaces size [] h = stays-refl (rest_at size [])
stays-spaces size (b ∷ bs) h =
    let step : (t : Bool) → eqb b 32 ≡ t → Stays (rest_at size (b ∷ bs)) (rest_at size (cond t (behind_spaces bs) (b ∷ bs))) = λ t. elim t as (λ v. eqb b 32 ≡ v → Stays (rest_at size (b ∷ bs)) (rest_at size (cond v (behind_spaces bs) (b ∷ bs)))) [
      | true ↦ λ s. stays-trans (rest_at size (b ∷ bs)) (rest_at size bs) (rest_at size (behind_spaces bs)) (stays-byte size b bs h (space-plain b s)) (stays-spaces size bs (omega arith))
      | false ↦ λ s. stays-refl (rest_at size (b ∷ bs))
    ] in
    step (eqb b 32) refl

pub line_after-behind : (size : ℕ) (bs : List ℕ) → length bs ≤ size → line_after (size - length bs) bs ≡ rest_at size (behind_newline bs)
line_after-behind size [] h = refl
line_after-behind size (b ∷ bs) h =
    let at = size - length (b ∷ bs) in
    let more = place-more size b bs h in
    let step : (t : Bool) → cond t (record { at = at + 1; bytes = bs }) (line_after (at + 1) bs) ≡ rest_at size (cond t bs (behind_newline bs)) = λ t. elim t as (λ v. cond v (record { at = at + 1; bytes = bs }) (line_after (at + 1) bs) ≡ rest_at size (cond v bs (behind_newline bs))) [
      | true ↦ ap (λ (n : ℕ). record { at = n; bytes = bs }) more
      | false ↦ ap (λ n. line_after n bs) more ∙ line_after-behind size bs (omega arith)
    ] in
    step (eqb b 10)

-- ---- the fields behind digits, and behind spaces

-- a byte that is neither a space nor of a line's end begins no field
later_fields-byte : (size b : ℕ) (bs : List ℕ) → length (b ∷ bs) ≤ size → IsPlain b → b ≢ 32 → later_fields (size - length (b ∷ bs)) (b ∷ bs) ≡ later_fields (size - length bs) bs
later_fields-byte size b bs h p s =
    let at = size - length (b ∷ bs) in
    let other : eqb b 32 ≡ false = grind (arith, nat_tests, s) in
    let more = later_fields (at + 1) bs in
    let begun = record { at = at + 1; bytes = bs } ∷ more in
    ap (λ t. cond t [] (cond (eqb b 32 && not (is_gap bs)) begun more)) (ends_line-plain b bs p)
    ∙ ap (λ t. cond (t && not (is_gap bs)) begun more) other
    ∙ ap (λ n. later_fields n bs) (place-more size b bs h)

pub later_fields-digits : (size : ℕ) (bs : List ℕ) → length bs ≤ size → later_fields (size - length bs) bs ≡ later_fields (size - length (behind_digits bs)) (behind_digits bs)
later_fields-digits size [] h = refl
later_fields-digits size (b ∷ bs) h =
    let all = later_fields (size - length (b ∷ bs)) (b ∷ bs) in
    let step : (t : Bool) → is_ascii_digit b ≡ t → all ≡ later_fields (size - length (cond t (behind_digits bs) (b ∷ bs))) (cond t (behind_digits bs) (b ∷ bs)) = λ t. elim t as (λ v. is_ascii_digit b ≡ v → all ≡ later_fields (size - length (cond v (behind_digits bs) (b ∷ bs))) (cond v (behind_digits bs) (b ∷ bs))) [
      | true ↦ λ d. later_fields-byte size b bs h (digit-plain b d).0 (digit-plain b d).1 ∙ later_fields-digits size bs (omega arith)
      | false ↦ λ d. refl
    ] in
    step (is_ascii_digit b) refl

is_gap-other : (b : ℕ) (bs : List ℕ) → eqb b 32 ≡ false → is_gap (b ∷ bs) ≡ true → ends_line (b ∷ bs) ≡ true
is_gap-other b bs s g = sym (ap (λ t. t || ends_line (b ∷ bs)) s) ∙ g

not_gap : (bs : List ℕ) → is_gap bs ≡ false → (ends_line bs ≡ false) × (behind_spaces bs ≡ bs)
not_gap [] g = cc
not_gap (b ∷ bs) g =
    let E = ends_line (b ∷ bs) in
    let step : (s e : Bool) → (s || e) ≡ false → (e ≡ false) × (cond s (behind_spaces bs) (b ∷ bs) ≡ b ∷ bs) = λ s e. elim s as (λ v. (v || e) ≡ false → (e ≡ false) × (cond v (behind_spaces bs) (b ∷ bs) ≡ b ∷ bs)) [
      | true ↦ λ h. cc
      | false ↦ λ h. (h, refl)
    ] in
    step (eqb b 32) E g

pub later_fields-spaces : (size : ℕ) (bs : List ℕ) → length bs ≤ size → is_gap bs ≡ true → later_fields (size - length bs) bs ≡ fields (rest_at size (behind_spaces bs))
later_fields-spaces size [] h g = refl
later_fields-spaces size (b ∷ bs) h g =
    let at = size - length (b ∷ bs) in
    let more = place-more size b bs h in
    let all = later_fields at (b ∷ bs) in
    let at_gap : (t : Bool) → is_gap bs ≡ t → cond (true && not t) (record { at = at + 1; bytes = bs } ∷ later_fields (at + 1) bs) (later_fields (at + 1) bs) ≡ fields (rest_at size (behind_spaces bs)) = λ t. elim t as (λ v. is_gap bs ≡ v → cond (true && not v) (record { at = at + 1; bytes = bs } ∷ later_fields (at + 1) bs) (later_fields (at + 1) bs) ≡ fields (rest_at size (behind_spaces bs))) [
      | true ↦ λ e. ap (λ n. later_fields n bs) more ∙ later_fields-spaces size bs (omega arith) e
      | false ↦ λ e.
          let no = not_gap bs e in
          let here = rest_at size bs in
          ap (λ (n : ℕ). record { at = n; bytes = bs } ∷ later_fields n bs) more
          ∙ sym (ap (λ t. cond t [] (here ∷ later_fields (size - length bs) bs)) no.0)
          ∙ ap (λ xs. fields (rest_at size xs)) (sym no.1)
    ] in
    let step : (s : Bool) → eqb b 32 ≡ s → all ≡ fields (rest_at size (cond s (behind_spaces bs) (b ∷ bs))) = λ s. elim s as (λ v. eqb b 32 ≡ v → all ≡ fields (rest_at size (cond v (behind_spaces bs) (b ∷ bs)))) [
      | true ↦ λ e.
          let begun = record { at = at + 1; bytes = bs } ∷ later_fields (at + 1) bs in
          ap (λ t. cond t [] (cond (eqb b 32 && not (is_gap bs)) begun (later_fields (at + 1) bs))) (ends_line-plain b bs (space-plain b e))
          ∙ ap (λ t. cond (t && not (is_gap bs)) begun (later_fields (at + 1) bs)) e
          ∙ at_gap (is_gap bs) refl
      | false ↦ λ e.
          let end = is_gap-other b bs e g in
          let begun = record { at = at + 1; bytes = bs } ∷ later_fields (at + 1) bs in
          ap (λ t. cond t [] (cond (eqb b 32 && not (is_gap bs)) begun (later_fields (at + 1) bs))) end
          ∙ sym (ap (λ t. cond t [] (rest_at size (b ∷ bs) ∷ all)) end)
    ] in
    step (eqb b 32) refl

-- past a field of digits
pub passes-field : (size : ℕ) (bs : List ℕ) → length bs ≤ size → ends_line bs ≡ false → is_gap (behind_digits bs) ≡ true → PassesField (rest_at size bs) (rest_at size (behind_spaces (behind_digits bs)))
passes-field size bs h e g =
    let ds = behind_digits bs in
    let few : length ds ≤ size = omega (arith, length-behind_digits bs) in
    let stays = stays-trans (rest_at size bs) (rest_at size ds) (rest_at size (behind_spaces ds)) (stays-digits size bs h) (stays-spaces size ds few) in
    record {
      others = sym (ap (λ t. drop 1 (cond t [] (rest_at size bs ∷ later_fields (size - length bs) bs))) e ∙ later_fields-digits size bs h ∙ later_fields-spaces size ds few g);
      end = stays.end;
      next = stays.next;
    }

-- ---- the number of a field

word-digit : (b : ℕ) (bs : List ℕ) → is_ascii_digit b ≡ true → word (b ∷ bs) ≡ b ∷ word bs
word-digit b bs d =
    let p = digit-plain b d in
    let other : eqb b 32 ≡ false = grind (arith, nat_tests, p.1) in
    ap (λ t. cond (t || ends_line (b ∷ bs)) [] (b ∷ word bs)) other ∙ ap (λ t. cond t [] (b ∷ word bs)) (ends_line-plain b bs p.0)

-- a field has digits alone where a gap follows its digits
digits-word : (bs : List ℕ) → all_ascii_digits (word bs) ≡ is_gap (behind_digits bs)
digits-word [] = refl
digits-word (b ∷ bs) =
    let here = is_gap (b ∷ bs) in
    let at_other : (g : Bool) → all_ascii_digits (cond g [] (b ∷ word bs)) ≡ (g || (is_ascii_digit b && all_ascii_digits (word bs))) = λ g. elim g as (λ v. all_ascii_digits (cond v [] (b ∷ word bs)) ≡ (v || (is_ascii_digit b && all_ascii_digits (word bs)))) [ true ↦ refl | false ↦ refl ] in
    let either : (g : Bool) → (g || (false && all_ascii_digits (word bs))) ≡ g = λ g. elim g as (λ v. (v || (false && all_ascii_digits (word bs))) ≡ v) [ true ↦ refl | false ↦ refl ] in
    let step : (t : Bool) → is_ascii_digit b ≡ t → all_ascii_digits (word (b ∷ bs)) ≡ is_gap (cond t (behind_digits bs) (b ∷ bs)) = λ t. elim t as (λ v. is_ascii_digit b ≡ v → all_ascii_digits (word (b ∷ bs)) ≡ is_gap (cond v (behind_digits bs) (b ∷ bs))) [
      | true ↦ λ d. ap all_ascii_digits (word-digit b bs d) ∙ ap (λ t. t && all_ascii_digits (word bs)) d ∙ digits-word bs
      | false ↦ λ d. at_other here ∙ ap (λ t. here || (t && all_ascii_digits (word bs))) d ∙ either here
    ] in
    step (is_ascii_digit b) refl

value-word : (n : ℕ) (bs : List ℕ) → is_gap (behind_digits bs) ≡ true → digits_value_after 10 n (word bs) ≡ digits_after n bs
value-word n [] g = refl
value-word n (b ∷ bs) g =
    let step : (t : Bool) → is_ascii_digit b ≡ t → is_gap (cond t (behind_digits bs) (b ∷ bs)) ≡ true → digits_value_after 10 n (word (b ∷ bs)) ≡ cond t (digits_after (n * 10 + digit_value b) bs) n = λ t. elim t as (λ v. is_ascii_digit b ≡ v → is_gap (cond v (behind_digits bs) (b ∷ bs)) ≡ true → digits_value_after 10 n (word (b ∷ bs)) ≡ cond v (digits_after (n * 10 + digit_value b) bs) n) [
      | true ↦ λ d h. ap (digits_value_after 10 n) (word-digit b bs d) ∙ value-word (n * 10 + digit_value b) bs h
      | false ↦ λ d h. ap (λ t. digits_value_after 10 n (cond t [] (b ∷ word bs))) h
    ] in
    step (is_ascii_digit b) refl g

pub natural_of-word : (b : ℕ) (bs : List ℕ) → is_ascii_digit b ≡ true → is_gap (behind_digits (b ∷ bs)) ≡ true → natural_of (word (b ∷ bs)) ≡ Some (digits_after 0 (b ∷ bs))
natural_of-word b bs d g =
    let same = word-digit b bs d in
    let digits : all_ascii_digits (b ∷ word bs) ≡ true = ap all_ascii_digits (sym same) ∙ digits-word (b ∷ bs) ∙ g in
    ap natural_of same ∙ ap (λ t. cond t (Some (digits_value_after 10 0 (b ∷ word bs))) None) digits
    ∙ ap Some (ap (digits_value_after 10 0) (sym same) ∙ value-word 0 (b ∷ bs) g)

some_digits : (w : List ℕ) → all_ascii_digits w ≡ false → natural_of w ≡ None
some_digits [] e = refl
some_digits (b ∷ bs) e = ap (λ t. cond t (Some (digits_value_after 10 0 (b ∷ bs))) None) e

pub natural_of-no_gap : (bs : List ℕ) → is_gap (behind_digits bs) ≡ false → natural_of (word bs) ≡ None
natural_of-no_gap bs g = some_digits (word bs) (digits-word bs ∙ g)

pub natural_of-no_digit : (bs : List ℕ) → length (behind_digits bs) ≡ length bs → natural_of (word bs) ≡ None
natural_of-no_digit [] e = refl
natural_of-no_digit (b ∷ bs) e =
    let step : (t : Bool) → is_ascii_digit b ≡ t → length (cond t (behind_digits bs) (b ∷ bs)) ≡ length (b ∷ bs) → natural_of (word (b ∷ bs)) ≡ None = λ t. elim t as (λ v. is_ascii_digit b ≡ v → length (cond v (behind_digits bs) (b ∷ bs)) ≡ length (b ∷ bs) → natural_of (word (b ∷ bs)) ≡ None) [
      | true ↦ λ d h. absurd (omega (arith, length-behind_digits bs, h))
      | false ↦ λ d h.
          let by_gap : (g : Bool) → natural_of (cond g [] (b ∷ word bs)) ≡ None = λ g. elim g as (λ v. natural_of (cond v [] (b ∷ word bs)) ≡ None) [
            | true ↦ refl
            | false ↦ ap (λ t. cond (t && all_ascii_digits (word bs)) (Some (digits_value_after 10 0 (b ∷ word bs))) None) d
          ] in
          by_gap (is_gap (b ∷ bs))
    ] in
    step (is_ascii_digit b) refl e

pub length-behind_newline : (bs : List ℕ) → length (behind_newline bs) ≤ length bs
length-behind_newline [] = omega arith
length-behind_newline (b ∷ bs) =
    let step : (t : Bool) → length (cond t bs (behind_newline bs)) ≤ length (b ∷ bs) = λ t. elim t as (λ v. length (cond v bs (behind_newline bs)) ≤ length (b ∷ bs)) [
      | true ↦ omega arith
      | false ↦ omega (arith, length-behind_newline bs)
    ] in
    step (eqb b 10)

-- where digits are passed, there is a first one
pub some-digit : (bs : List ℕ) → length (behind_digits bs) ≢ length bs → is_gap (behind_digits bs) ≡ true → natural_of (word bs) ≡ Some (digits_after 0 bs)
some-digit [] e g = absurd (e refl)
some-digit (b ∷ bs) e g =
    let step : (t : Bool) → is_ascii_digit b ≡ t → natural_of (word (b ∷ bs)) ≡ Some (digits_after 0 (b ∷ bs)) = λ t. elim t as (λ v. is_ascii_digit b ≡ v → natural_of (word (b ∷ bs)) ≡ Some (digits_after 0 (b ∷ bs))) [
      | true ↦ λ d. natural_of-word b bs d g
      | false ↦ λ d. absurd (e (ap (λ t. length (cond t (behind_digits bs) (b ∷ bs))) d))
    ] in
    step (is_ascii_digit b) refl

-- at the line's end no byte of it is left
pub line_end-newline : (r : Rest) → ends_line r.bytes ≡ true → has_newline r.bytes ≡ true → line_end r ≡ record { at = r.at; is_cut = false }
line_end-newline r e n =
    let none : (bs : List ℕ) → ends_line bs ≡ true → length (line_bytes bs) ≡ 0 = λ bs. elim bs as (λ v. ends_line v ≡ true → length (line_bytes v) ≡ 0) [
      | [] ↦ λ _. refl
      | (b ∷ more) ↦ λ h. ap (λ t. length (cond t [] (b ∷ line_bytes more))) h
    ] in
    let by : Bool → ℕ → LineEnd = λ t m. cond t (record { at = m; is_cut = false }) (record { at = r.at + length r.bytes; is_cut = true }) in
    ap (λ t. by t (r.at + length (line_bytes r.bytes))) n ∙ ap (by true) (omega (arith, none r.bytes e))

pub line_end-cut : (r : Rest) → has_newline r.bytes ≡ false → line_end r ≡ record { at = r.at + length r.bytes; is_cut = true }
line_end-cut r n =
    let by : Bool → LineEnd = λ t. cond t (record { at = r.at + length (line_bytes r.bytes); is_cut = false }) (record { at = r.at + length r.bytes; is_cut = true }) in
    ap by n

-- ---- a magic word

abbrev pub Letters : List ℕ → Type 0
Letters letters = IsTrue (list_all (λ b. nat_lt 32 b) letters)

letter-plain : (b : ℕ) → nat_lt 32 b ≡ true → IsPlain b × (b ≢ 32)
letter-plain b h = ((λ e. grind (arith, nat_tests), λ e. grind (arith, nat_tests)), λ e. grind (arith, nat_tests))

first-letter : (b : ℕ) (letters : List ℕ) → Letters (b ∷ letters) → (nat_lt 32 b ≡ true) × Letters letters
first-letter b letters l =
    let step : (t : Bool) → nat_lt 32 b ≡ t → IsTrue (t && list_all (λ b. nat_lt 32 b) letters) → (nat_lt 32 b ≡ true) × Letters letters = λ t. elim t as (λ v. nat_lt 32 b ≡ v → IsTrue (v && list_all (λ b. nat_lt 32 b) letters) → (nat_lt 32 b ≡ true) × Letters letters) [
      | true ↦ λ e h. (e, h)
      | false ↦ λ e h. cc
    ] in
    step (nat_lt 32 b) refl l

over-word : (size : ℕ) (letters more : List ℕ) → Letters letters → length (letters ++ more) ≤ size
    → Stays (rest_at size (letters ++ more)) (rest_at size more) × (later_fields (size - length (letters ++ more)) (letters ++ more) ≡ later_fields (size - length more) more)
over-word size [] more l h = (stays-refl (rest_at size more), refl)
over-word size (b ∷ letters) more l h =
    let first = first-letter b letters l in
    let plain = letter-plain b first.0 in
    let rest = over-word size letters more first.1 (omega arith) in (
      stays-trans (rest_at size ((b ∷ letters) ++ more)) (rest_at size (letters ++ more)) (rest_at size more) (stays-byte size b (letters ++ more) h plain.0) rest.0,
      later_fields-byte size b (letters ++ more) h plain.0 plain.1 ∙ rest.1,
    )

begins-letter : (letters more : List ℕ) → Letters letters → 0 < length letters → ends_line (letters ++ more) ≡ false
begins-letter [] more l h = absurd (omega arith)
begins-letter (b ∷ letters) more l h = ends_line-plain b (letters ++ more) (letter-plain b (first-letter b letters l).0).0

-- past a magic word and the spaces behind it
pub passes-magic : (size : ℕ) (bs letters more : List ℕ) → bs ≡ letters ++ 32 ∷ more → Letters letters → 0 < length letters → length bs ≤ size → PassesField (rest_at size bs) (rest_at size (behind_spaces more))
passes-magic size bs letters more is l some h =
    let whole = letters ++ 32 ∷ more in
    let fits : length whole ≤ size = omega (arith, ap length is) in
    let fits_rest : length (32 ∷ more) ≤ size = omega (arith, length-append letters (32 ∷ more)) in
    let over = over-word size letters (32 ∷ more) l fits in
    let stays = stays-trans (rest_at size whole) (rest_at size (32 ∷ more)) (rest_at size (behind_spaces more)) over.0 (stays-spaces size (32 ∷ more) fits_rest) in
    let passed : PassesField (rest_at size whole) (rest_at size (behind_spaces more)) = record {
      others = sym (ap (λ t. drop 1 (cond t [] (rest_at size whole ∷ later_fields (size - length whole) whole))) (begins-letter letters (32 ∷ more) l some) ∙ over.1 ∙ later_fields-spaces size (32 ∷ more) fits_rest refl);
      end = stays.end;
      next = stays.next;
    } in
    subst (λ (xs : List ℕ). PassesField (rest_at size xs) (rest_at size (behind_spaces more))) (sym is) passed
