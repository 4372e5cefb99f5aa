-- The lines of a text and the words of a line, from the first on.
use Rattle.std.proofs.Common.{◌≡◌, ℕ, zero, ◌+◌, ◌<◌, ◌≤◌, suc, eqb, Bool, true, false, cond, not, List, [], ◌∷◌, length, take, drop, get_or, map, filter, inl, inr, refl, sym, ap, ◌∙◌, subst, arith, length-take}
use Rattle.std.specs.List.{slice_split, position_or_len, before_first, after_first}
use Rattle.std.proofs.lemmas.List.Splits.{slice_split_first, slice_split_none, slice_split-cons_yes}
use Rattle.std.proofs.lemmas.List.Sums.{fails_before_first, passes_at_first}
use Rattle.std.proofs.lemmas.List.{take_all, drop_more, drop_all}
use Rattle.std.proofs.lemmas.Bool.{cases_lt}
use Rattle.text_words.specs.Lines.{lines, is_some_line}
use Rattle.text_words.specs.Text.{Rest, line_bytes, later_lines, behind_newline}
use Rattle.text_words.specs.Words.{is_some_word, words, separates}
use Rattle.text_words.specs.declared.words.Separators.{Separators}
use Rattle.text_words.proofs.Fields.{length-behind_newline}

-- the parts that aren't empty
abbrev pub parts : (ℕ → Bool) → List ℕ → List (List ℕ)
parts p xs = filter is_some_word (slice_split p xs)

-- where no element passes, the list is the one part
split_whole : (p : ℕ → Bool) (xs : List ℕ) → position_or_len p xs ≡ length xs → slice_split p xs ≡ xs ∷ []
split_whole p xs e = slice_split_none p xs (λ k d h. fails_before_first p xs k d (omega arith))

-- separators at the front don't matter
pub words-skip : (by : Separators) (xs : List ℕ) → words by (drop (position_or_len (λ b. not (separates by b)) xs) xs) ≡ words by xs
words-skip by [] = refl
words-skip by (x ∷ xs) =
    let p = separates by in
    let P : ℕ → Type 0 = λ n. words by (drop n (x ∷ xs)) ≡ words by (x ∷ xs) in
    let step : (b : Bool) → p x ≡ b → P (position_or_len (λ b. not (p b)) (x ∷ xs)) = λ b. elim b as (λ v. p x ≡ v → P (position_or_len (λ b. not (p b)) (x ∷ xs))) [
      | true ↦ λ e. let at : position_or_len (λ b. not (p b)) (x ∷ xs) ≡ suc (position_or_len (λ b. not (p b)) xs) = grind arith in
          subst P (sym at) (words-skip by xs ∙ sym (ap (filter is_some_word) (slice_split-cons_yes p x xs e)))
      | false ↦ λ e. let at : position_or_len (λ b. not (p b)) (x ∷ xs) ≡ 0 = grind arith in subst P (sym at) refl
    ] in
    step (p x) refl

pub is_some_word-long : (w : List ℕ) → 0 < length w → is_some_word w ≡ true
is_some_word-long [] h = absurd (omega arith)
is_some_word-long (b ∷ bs) h = refl

-- a word is the part before the first separator
words-at_first : (by : Separators) (line : List ℕ) → 0 < position_or_len (separates by) line → position_or_len (separates by) line < length line
    → words by line ≡ before_first (separates by) line ∷ words by (drop (position_or_len (separates by) line) line)
words-at_first by line some inside =
    let p = separates by in
    let long : 0 < length (before_first p line) = omega (arith, length-take (position_or_len p line) line) in
    ap (filter is_some_word) (slice_split_first p line 0 inside)
    ∙ ap (λ t. cond t (before_first p line ∷ words by (after_first p line)) (words by (after_first p line))) (is_some_word-long (before_first p line) long)
    ∙ ap (λ ws. before_first p line ∷ ws) (sym (ap (words by) (drop_more line (position_or_len p line) 0 inside)
    ∙ ap (filter is_some_word) (slice_split-cons_yes p _ (after_first p line) (passes_at_first p line 0 inside))))

words-only : (by : Separators) (line : List ℕ) → 0 < length line → position_or_len (separates by) line ≡ length line → words by line ≡ line ∷ []
words-only by line some e =
    ap (filter is_some_word) (split_whole (separates by) line e) ∙ ap (λ t. cond t (line ∷ []) []) (is_some_word-long line some)

pub words-first : (by : Separators) (line : List ℕ) (end : ℕ) → end ≡ position_or_len (separates by) line → 0 < end → end ≤ length line
    → words by line ≡ take end line ∷ words by (drop end line)
words-first by line end e some within =
    elim (cases_lt end (length line)) as (λ _. words by line ≡ take end line ∷ words by (drop end line)) [
      | inl h ↦ let P : ℕ → Type 0 = λ n. words by line ≡ take n line ∷ words by (drop n line) in
          subst P (sym e) (words-at_first by line (omega arith) (omega arith))
      | inr h ↦ words-only by line (omega arith) (omega arith) ∙ ap (λ w. w ∷ []) (sym (take_all end line h)) ∙ ap (λ rest. take end line ∷ words by rest) (sym (drop_all end line h))
    ]

-- a byte that isn't a separator is no first separator
pub first_separator-later : (by : Separators) (line : List ℕ) → 0 < length line → separates by (get_or line 0 0) ≡ false → 0 < position_or_len (separates by) line
first_separator-later by [] some h = absurd (omega arith)
first_separator-later by (b ∷ bs) some h = grind (arith, h)

pub false_from_not : (b : Bool) → not b ≡ true → b ≡ false
false_from_not true e = sym e
false_from_not false e = refl

-- ---- lines

-- the lines among these that begin before the text's end
abbrev begun : List Rest → List (List ℕ)
begun rs = map (λ (r : Rest). line_bytes r.bytes) (filter (λ (r : Rest). is_some_line r.bytes) rs)

-- one more line
abbrev with_line : List ℕ → List (List ℕ) → List (List ℕ)
with_line bs ls = cond (is_some_line bs) (line_bytes bs ∷ ls) ls

begun-first : (at : ℕ) (bs : List ℕ) (rs : List Rest) → begun (record { at = at; bytes = bs } ∷ rs) ≡ with_line bs (begun rs)
begun-first at [] rs = refl
begun-first at (b ∷ bs) rs = refl

-- the lines behind the first one are those of what follows its newline, wherever they stand
pub later-lines : (at : ℕ) (bs : List ℕ) → begun (later_lines at bs) ≡ lines (behind_newline bs)
later-lines at [] = refl
later-lines at (b ∷ bs) =
    let more = later-lines (at + 1) bs in
    let step : (t : Bool) → begun (cond t (record { at = at + 1; bytes = bs } ∷ later_lines (at + 1) bs) (later_lines (at + 1) bs)) ≡ lines (cond t bs (behind_newline bs)) = λ t. elim t as (λ v. begun (cond v (record { at = at + 1; bytes = bs } ∷ later_lines (at + 1) bs) (later_lines (at + 1) bs)) ≡ lines (cond v bs (behind_newline bs))) [
      | true ↦ begun-first (at + 1) bs (later_lines (at + 1) bs) ∙ ap (with_line bs) (more ∙ sym (later-lines 0 bs)) ∙ sym (begun-first 0 bs (later_lines 0 bs))
      | false ↦ more
    ] in
    step (eqb b 10)

-- the first line, and those behind its newline
pub lines-next : (text : List ℕ) → 0 < length text → lines text ≡ line_bytes text ∷ lines (behind_newline text)
lines-next [] h = absurd (omega arith)
lines-next (b ∷ bs) h = ap (λ ls. line_bytes (b ∷ bs) ∷ ls) (later-lines 0 (b ∷ bs))

-- a text has at most as many lines as bytes
behind_newline-shorter : (b : ℕ) (bs : List ℕ) → length (behind_newline (b ∷ bs)) ≤ length bs
behind_newline-shorter b bs =
    let step : (t : Bool) → length (cond t bs (behind_newline bs)) ≤ length bs = λ t. elim t as (λ v. length (cond v bs (behind_newline bs)) ≤ length bs) [
      | true ↦ omega arith
      | false ↦ length-behind_newline bs
    ] in
    step (eqb b 10)

lines-few : (fuel : ℕ) (text : List ℕ) → length text ≤ fuel → length (lines text) ≤ length text
lines-few fuel [] h = omega arith
lines-few zero (b ∷ bs) h = absurd (omega arith)
lines-few (suc fuel) (b ∷ bs) h =
    let text = b ∷ bs in
    let rest = behind_newline text in
    let shorter = behind_newline-shorter b bs in
    let few = lines-few fuel rest (omega arith) in
    let next = ap length (lines-next text (omega arith)) in
    omega (arith, few, shorter, next)

pub length-lines : (text : List ℕ) → length (lines text) ≤ length text
length-lines text = lines-few (length text) text (omega arith)
