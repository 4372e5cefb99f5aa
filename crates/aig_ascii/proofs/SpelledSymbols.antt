-- The symbols of a text that was written.
use Rattle.std.proofs.Common.{◌≡◌, ◌≢◌, ℕ, suc, ◌+◌, ◌^◌, ◌<◌, ◌≤◌, Bool, true, false, cond, ◌&&◌, ◌||◌, not, IsTrue, nat_eq, eqb, Some, List, [], ◌∷◌, ◌++◌, length, get_or, refl, sym, ap, ◌∙◌, subst, arith, AllPairs, Contains, append_assoc}
use Rattle.std.specs.List.{AllByRecursion, flat_map, cons_option}
use Rattle.std.specs.Option.{option_and_then, option_to_list}
use Rattle.std.specs.Fmt.{decimal}
use Rattle.std.specs.Char.{is_ascii_digit}
use Rattle.std.proofs.lemmas.Bool.{false≢true}
use Rattle.std.proofs.lemmas.Bool.Decides.{nat_tests}
use Rattle.std.proofs.lemmas.List.{get_or_at, length-append}
use Rattle.text_words.specs.Numbers.{natural_of}
use Rattle.text_words.proofs.Written.{natural_of-decimal, decimal-digits, decimal-some, each-append, each-weaker}
use Rattle.aig_model.proofs.Elements.{Contains-head, Contains-later}
use Rattle.aig_model.specs.WellFormed.{Exists, IsName}
use Rattle.aig_model.specs.declared.parts.Parts.{Parts}
use Rattle.aig_model.specs.declared.parts.Named.{Named}
use Rattle.aig_model.specs.declared.parts.Place.{Place}
use Rattle.aig_model.specs.declared.parts.Place.TheVariants.{Input, Latch as InLatch, Output, Bad, Constraint}
use Rattle.text_words.specs.Text.{Rest, ends_line, line_bytes, later_lines, all_lines, leading_digits, behind_digits}
use Rattle.aig_ascii.specs.Demands.{AllMet}
use Rattle.aig_ascii.specs.Symbols.{begins_with_digit, begins_comment, is_empty, symbol_lines, place_at, name_behind, named, symbol_of, symbol_on, exists_in, same_place, is_named, is_right, symbol_demands, symbols_of}
use Rattle.aig_ascii.specs.declared.header.Sizes.{Sizes}
use Rattle.aig_ascii.specs.CircuitText.{letter_of, position_of, symbol_text}
use Rattle.aig_ascii.proofs.SpelledLines.{IsInLine}
use Rattle.aig_ascii.proofs.SpelledHeader.{sizes_from}
use Rattle.aig_ascii.specs.declared.fault.SharedKind.{SharedKind}

-- ---- lines of bytes
-- some byte, and no carriage return at the end
abbrev pub EndsWell : List ℕ → Type 0
EndsWell [] = ⊥
EndsWell (b ∷ []) = b ≢ 13
EndsWell (b ∷ c ∷ bs) = EndsWell (c ∷ bs)

ends-cons : (b : ℕ) (bs : List ℕ) → EndsWell bs → EndsWell (b ∷ bs)
ends-cons b [] well = absurd well
ends-cons b (c ∷ bs) well = well

ends-append : (xs ys : List ℕ) → EndsWell ys → EndsWell (xs ++ ys)
ends-append [] ys well = well
ends-append (x ∷ xs) ys well = ends-cons x (xs ++ ys) (ends-append xs ys well)

ends-from_last : (bs : List ℕ) → 0 < length bs → ((k : ℕ) → k + 1 ≡ length bs → get_or bs k 0 ≢ 13) → EndsWell bs
ends-from_last [] some last = absurd (omega arith)
ends-from_last (b ∷ []) some last = last 0 (omega arith)
ends-from_last (b ∷ c ∷ bs) some last = ends-from_last (c ∷ bs) (omega arith) (λ k h. last (suc k) (omega (arith, h)))

goes_on : (bs rest : List ℕ) → AllByRecursion IsInLine bs → EndsWell bs → ends_line (bs ++ 10 ∷ rest) ≡ false
goes_on [] rest all well = absurd well
goes_on (b ∷ []) rest all well =
    let newline : eqb b 10 ≡ false = (let ne = all.0 in grind (arith, nat_tests)) in
    let return : eqb b 13 ≡ false = grind (arith, nat_tests) in
    ap (λ t. t || (eqb b 13 && ends_line (10 ∷ rest))) newline ∙ ap (λ t. t && ends_line (10 ∷ rest)) return
goes_on (b ∷ c ∷ bs) rest all well =
    let newline : eqb b 10 ≡ false = (let ne = all.0 in grind (arith, nat_tests)) in
    ap (λ t. t || (eqb b 13 && ends_line (c ∷ (bs ++ 10 ∷ rest)))) newline
    ∙ (ap (λ t. eqb b 13 && t) (goes_on (c ∷ bs) rest all.1 well) ∙ and_false (eqb b 13))
  where
    and_false : (t : Bool) → (t && false) ≡ false
    and_false true = refl
    and_false false = refl

line_bytes-written : (bs rest : List ℕ) → AllByRecursion IsInLine bs → EndsWell bs → line_bytes (bs ++ 10 ∷ rest) ≡ bs
line_bytes-written [] rest all well = absurd well
line_bytes-written (b ∷ []) rest all well = ap (λ t. cond t [] (b ∷ line_bytes (10 ∷ rest))) (goes_on (b ∷ []) rest all well)
line_bytes-written (b ∷ c ∷ bs) rest all well =
    ap (λ t. cond t [] (b ∷ line_bytes (c ∷ (bs ++ 10 ∷ rest)))) (goes_on (b ∷ c ∷ bs) rest all well)
    ∙ ap (λ xs. b ∷ xs) (line_bytes-written (c ∷ bs) rest all.1 well)

-- the lines behind a line
later_lines-written : (at : ℕ) (bs rest : List ℕ) → AllByRecursion IsInLine bs → (m : ℕ) × (later_lines at (bs ++ 10 ∷ rest) ≡ all_lines (record { at = m; bytes = rest }))
later_lines-written at [] rest all = (at + 1, refl)
later_lines-written at (b ∷ bs) rest all =
    let other : eqb b 10 ≡ false = (let ne = all.0 in grind (arith, nat_tests)) in
    let more = later_lines (at + 1) (bs ++ 10 ∷ rest) in
    let begun : List Rest = record { at = at + 1; bytes = bs ++ 10 ∷ rest } ∷ more in
    let later = later_lines-written (at + 1) bs rest all.1 in
    (later.0, ap (λ t. cond t begun more) other ∙ later.1)

-- ---- digits
abbrev IsDigit : ℕ → Type 0
IsDigit b = IsTrue (is_ascii_digit b)

digits-lead : (ds rest : List ℕ) → AllByRecursion IsDigit ds → begins_with_digit rest ≡ false → (leading_digits (ds ++ rest) ≡ ds) × (behind_digits (ds ++ rest) ≡ rest)
digits-lead [] [] all other = (refl, refl)
digits-lead [] (b ∷ bs) all other = (ap (λ t. cond t (b ∷ leading_digits bs) []) other, ap (λ t. cond t (behind_digits bs) (b ∷ bs)) other)
digits-lead (d ∷ ds) rest all other =
    let more = digits-lead ds rest all.1 other in (
      ap (λ t. cond t (d ∷ leading_digits (ds ++ rest)) []) all.0 ∙ ap (λ xs. d ∷ xs) more.0,
      ap (λ t. cond t (behind_digits (ds ++ rest)) (d ∷ (ds ++ rest))) all.0 ∙ more.1,
    )

ascii-digit : (b : ℕ) → 48 ≤ b → b ≤ 57 → IsDigit b
ascii-digit b low high = grind (arith, nat_tests)

decimal-ascii : (n : ℕ) → n < 2 ^ 64 → AllByRecursion IsDigit (decimal n)
decimal-ascii n few = each-weaker _ IsDigit (λ b h. ascii-digit b h.0 h.1) (decimal n) (decimal-digits n few)

digit-front : (ds rest : List ℕ) → 0 < length ds → AllByRecursion IsDigit ds → begins_with_digit (ds ++ rest) ≡ true
digit-front [] rest some all = absurd (omega arith)
digit-front (d ∷ ds) rest some all = all.0

-- ---- one symbol
place-back : (p : Place) → place_at (letter_of p) (position_of p) ≡ Some p
place-back (Input k) = refl
place-back (InLatch k) = refl
place-back (Output k) = refl
place-back (Bad k) = refl
place-back (Constraint k) = refl

letter-in_line : (p : Place) → IsInLine (letter_of p)
letter-in_line (Input k) = omega arith
letter-in_line (InLatch k) = omega arith
letter-in_line (Output k) = omega arith
letter-in_line (Bad k) = omega arith
letter-in_line (Constraint k) = omega arith

no_comment : (p : Place) (bs : List ℕ) → begins_with_digit bs ≡ true → begins_comment (letter_of p ∷ bs) ≡ false
no_comment (Input k) bs digit = refl
no_comment (InLatch k) bs digit = refl
no_comment (Output k) bs digit = refl
no_comment (Bad k) bs digit = refl
no_comment (Constraint k) bs digit = ap not digit

-- the bytes of a name's line
abbrev symbol_bytes : Named → List ℕ
symbol_bytes n = letter_of n.place ∷ (decimal (position_of n.place) ++ 32 ∷ n.name)

symbol-split : (n : Named) (rest : List ℕ) → symbol_text n ++ rest ≡ symbol_bytes n ++ 10 ∷ rest
symbol-split n rest = ap (λ xs. letter_of n.place ∷ xs) (simp append_assoc)

module _ (n : Named) (form : IsName n.name) (few : position_of n.place < 2 ^ 64) where
  digits : AllByRecursion IsDigit (decimal (position_of n.place))
  digits = decimal-ascii (position_of n.place) few

  name-in_line : AllByRecursion IsInLine n.name
  name-in_line = each_other n.name form.one_line
    where
      each_other : (bs : List ℕ) → (¬ Contains bs 10) → AllByRecursion IsInLine bs
      each_other [] none = tt
      each_other (b ∷ bs) none = (λ e. none (Contains-head b 10 bs e), each_other bs (λ later. none (Contains-later b 10 bs later)))

  bytes-in_line : AllByRecursion IsInLine (symbol_bytes n)
  bytes-in_line = (
    letter-in_line n.place,
    each-append IsInLine (decimal (position_of n.place)) (32 ∷ n.name) (each-weaker _ IsInLine (λ b h. omega arith) (decimal (position_of n.place)) (decimal-digits (position_of n.place) few))
        (omega arith, name-in_line),
  )

  bytes-end : EndsWell (symbol_bytes n)
  bytes-end =
      ends-cons (letter_of n.place) (decimal (position_of n.place) ++ 32 ∷ n.name)
      (ends-append (decimal (position_of n.place)) (32 ∷ n.name) (ends-cons 32 n.name (ends-from_last n.name form.some form.end)))

  some_name : name_behind (32 ∷ n.name) ≡ Some n.name
  some_name = behind n.name form.some
    where
      behind : (name : List ℕ) → 0 < length name → name_behind (32 ∷ name) ≡ Some name
      behind [] some = absurd (omega arith)
      behind (b ∷ bs) some = refl

  symbol-back : symbol_of (symbol_bytes n) ≡ Some n
  symbol-back =
      let k = position_of n.place in
      let parts = digits-lead (decimal k) (32 ∷ n.name) digits refl in
      ap (λ ds. named (option_and_then (place_at (letter_of n.place)) (natural_of ds)) (name_behind (behind_digits (decimal k ++ 32 ∷ n.name)))) parts.0
      ∙ (ap (λ o. named (option_and_then (place_at (letter_of n.place)) o) (name_behind (behind_digits (decimal k ++ 32 ∷ n.name)))) (natural_of-decimal k few)
      ∙ (ap (λ o. named o (name_behind (behind_digits (decimal k ++ 32 ∷ n.name)))) (place-back n.place)
      ∙ (ap (λ bs. named (Some n.place) (name_behind bs)) parts.1 ∙ ap (λ o. named (Some n.place) o) some_name)))

  comment-none : begins_comment (symbol_bytes n) ≡ false
  comment-none = no_comment n.place (decimal (position_of n.place) ++ 32 ∷ n.name) (digit-front (decimal (position_of n.place)) (32 ∷ n.name) (decimal-some (position_of n.place) few) digits)

-- ---- all symbols
-- each line is the symbol beside it
abbrev pub SpellNames : List Rest → List Named → Type 0
SpellNames [] [] = Unit {0}
SpellNames [] (n ∷ names) = ⊥
SpellNames (l ∷ lines) [] = ⊥
SpellNames (l ∷ lines) (n ∷ names) = (symbol_on l ≡ Some n) × SpellNames lines names

abbrev pub IsWritten : Named → Type 0
IsWritten n = IsName n.name × (position_of n.place < 2 ^ 64)

pub names-spell : (at : ℕ) (names : List Named) (bytes : List ℕ) → AllByRecursion IsWritten names → bytes ≡ flat_map symbol_text names
    → SpellNames (symbol_lines (all_lines (record { at = at; bytes = bytes }))) names
names-spell at [] bytes all is = subst (λ (bs : List ℕ). SpellNames (symbol_lines (all_lines (record { at = at; bytes = bs }))) []) (sym is) tt
names-spell at (n ∷ names) bytes all is =
    let rest = flat_map symbol_text names in
    let split : bytes ≡ symbol_bytes n ++ 10 ∷ rest = is ∙ symbol-split n rest in
    let here : Rest = record { at = at; bytes = symbol_bytes n ++ 10 ∷ rest } in
    let later = later_lines-written at (symbol_bytes n) rest (bytes-in_line n all.0.0 all.0.1) in
    let line = line_bytes-written (symbol_bytes n) rest (bytes-in_line n all.0.0 all.0.1) (bytes-end n all.0.0 all.0.1) in
    let others = all_lines (record { at = later.0; bytes = rest }) in
    let kept : symbol_lines (here ∷ others) ≡ here ∷ symbol_lines others =
    ap (λ bs. cond (begins_comment bs) [] (cond (is_empty bs) (symbol_lines others) (here ∷ symbol_lines others))) line
    ∙ ap (λ t. cond t [] (here ∷ symbol_lines others)) (comment-none n all.0.0 all.0.1)
    in
    let whole : symbol_lines (all_lines here) ≡ here ∷ symbol_lines others = ap (λ ls. symbol_lines (here ∷ ls)) later.1 ∙ kept in
    subst (λ (bs : List ℕ). SpellNames (symbol_lines (all_lines (record { at = at; bytes = bs }))) (n ∷ names)) (sym split)
    (subst (λ (ls : List Rest). SpellNames ls (n ∷ names)) (sym whole) (ap symbol_of line ∙ symbol-back n all.0.0 all.0.1, names-spell later.0 names rest all.1 refl))

pub names-back : (lines : List Rest) (names : List Named) → SpellNames lines names → symbols_of lines ≡ names
names-back [] [] spell = refl
names-back [] (n ∷ names) spell = absurd spell
names-back (l ∷ lines) [] spell = absurd spell
names-back (l ∷ lines) (n ∷ names) spell = ap (λ o. cons_option o (symbols_of lines)) spell.0 ∙ ap (λ ns. n ∷ ns) (names-back lines names spell.1)

-- ---- what is asked of them
eq-from_test : (j k : ℕ) → nat_eq j k ≡ true → j ≡ k
eq-from_test j k e = grind (arith, nat_tests)

same-place : (p q : Place) → same_place p q ≡ true → p ≡ q
same-place (Input j) (Input k) e = ap Input (eq-from_test j k e)
same-place (Input j) (InLatch k) e = absurd (false≢true e)
same-place (Input j) (Output k) e = absurd (false≢true e)
same-place (Input j) (Bad k) e = absurd (false≢true e)
same-place (Input j) (Constraint k) e = absurd (false≢true e)
same-place (InLatch j) (Input k) e = absurd (false≢true e)
same-place (InLatch j) (InLatch k) e = ap InLatch (eq-from_test j k e)
same-place (InLatch j) (Output k) e = absurd (false≢true e)
same-place (InLatch j) (Bad k) e = absurd (false≢true e)
same-place (InLatch j) (Constraint k) e = absurd (false≢true e)
same-place (Output j) (Input k) e = absurd (false≢true e)
same-place (Output j) (InLatch k) e = absurd (false≢true e)
same-place (Output j) (Output k) e = ap Output (eq-from_test j k e)
same-place (Output j) (Bad k) e = absurd (false≢true e)
same-place (Output j) (Constraint k) e = absurd (false≢true e)
same-place (Bad j) (Input k) e = absurd (false≢true e)
same-place (Bad j) (InLatch k) e = absurd (false≢true e)
same-place (Bad j) (Output k) e = absurd (false≢true e)
same-place (Bad j) (Bad k) e = ap Bad (eq-from_test j k e)
same-place (Bad j) (Constraint k) e = absurd (false≢true e)
same-place (Constraint j) (Input k) e = absurd (false≢true e)
same-place (Constraint j) (InLatch k) e = absurd (false≢true e)
same-place (Constraint j) (Output k) e = absurd (false≢true e)
same-place (Constraint j) (Bad k) e = absurd (false≢true e)
same-place (Constraint j) (Constraint k) e = ap Constraint (eq-from_test j k e)

not_named : (earlier : List Named) (p : Place) → AllByRecursion (λ (n : Named). n.place ≢ p) earlier → is_named earlier p ≡ false
not_named [] p all = refl
not_named (n ∷ earlier) p all = first (same_place n.place p) refl ∙ not_named earlier p all.1
  where
    first : (t : Bool) → same_place n.place p ≡ t → (same_place n.place p || is_named earlier p) ≡ is_named earlier p
    first true e = absurd (all.0 (same-place n.place p e))
    first false e = ap (λ t. t || is_named earlier p) e

-- the names are of places that exist and that none before them names
abbrev pub AreRight : Sizes → List Named → List Named → Type 0
AreRight sizes earlier [] = Unit {0}
AreRight sizes earlier (n ∷ names) =
    IsTrue (exists_in sizes n.place) × AllByRecursion (λ (m : Named). m.place ≢ n.place) earlier × AreRight sizes (earlier ++ n ∷ []) names

pub symbols-met : {K : Type 0} (kind : SharedKind → K) (sizes : Sizes) (earlier : List Named) (lines : List Rest) (names : List Named) → SpellNames lines names → AreRight sizes earlier names
    → AllMet (symbol_demands kind sizes earlier lines)
symbols-met kind sizes earlier [] [] spell right = tt
symbols-met kind sizes earlier [] (n ∷ names) spell right = absurd spell
symbols-met kind sizes earlier (l ∷ lines) [] spell right = absurd spell
symbols-met kind sizes earlier (l ∷ lines) (n ∷ names) spell right =
    let met : is_right sizes earlier (symbol_on l) ≡ true =
    ap (is_right sizes earlier) spell.0 ∙ (ap (λ t. t && not (is_named earlier n.place)) right.0 ∙ ap not (not_named earlier n.place right.1))
    in
    let more : earlier ++ option_to_list (symbol_on l) ≡ earlier ++ n ∷ [] = ap (λ o. earlier ++ option_to_list o) spell.0 in
    (met, subst (λ (es : List Named). AllMet (symbol_demands kind sizes es lines)) (sym more) (symbols-met kind sizes (earlier ++ n ∷ []) lines names spell.1 right.2))

exists-true : (c : Parts) (p : Place) → Exists c p → exists_in (sizes_from c) p ≡ true
exists-true c (Input k) h = grind (arith, nat_tests)
exists-true c (InLatch k) h = grind (arith, nat_tests)
exists-true c (Output k) h = grind (arith, nat_tests)
exists-true c (Bad k) h = grind (arith, nat_tests)
exists-true c (Constraint k) h = grind (arith, nat_tests)

pub right-from_apart : (c : Parts) (earlier names : List Named) → AllByRecursion (λ (n : Named). Exists c n.place) names → AllPairs (λ (m n : Named). m.place ≢ n.place) (earlier ++ names)
    → AreRight (sizes_from c) earlier names
right-from_apart c earlier [] exist apart = tt
right-from_apart c earlier (n ∷ names) exist apart = (
  exists-true c n.place exist.0,
  each_earlier earlier apart,
  right-from_apart c (earlier ++ n ∷ []) names exist.1 (subst (AllPairs (λ (m n : Named). m.place ≢ n.place)) (sym (append_assoc earlier (n ∷ []) names)) apart),
)
  where
    each_earlier : (before : List Named) → AllPairs (λ (m n : Named). m.place ≢ n.place) (before ++ n ∷ names) → AllByRecursion (λ (m : Named). m.place ≢ n.place) before
    each_earlier [] apart = tt
    each_earlier (m ∷ before) apart = (
      subst (λ (x : Named). m.place ≢ x.place) (get_or_at before n names m (length before) refl) (apart 0 (suc (length before)) m (omega arith) (omega (arith, length-append before (n ∷ names)))),
      each_earlier before (λ i j d h k. apart (suc i) (suc j) d (omega arith) (omega arith)),
    )
