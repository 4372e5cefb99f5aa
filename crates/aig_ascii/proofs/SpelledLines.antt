-- Lines of a text that was written: the numbers on them, and what follows.
use Rattle.std.proofs.Common.{◌≡◌, ◌≢◌, ℕ, zero, suc, ◌+◌, ◌^◌, ◌<◌, ◌≤◌, Bool, true, false, cond, ◌&&◌, ◌||◌, not, is_some, unwrap_or, IsTrue, eqb, Some, List, [], ◌∷◌, ◌++◌, map, length, drop, refl, sym, ap, ◌∙◌, subst, arith, append_assoc}
use Rattle.std.specs.List.{AllByRecursion, flat_map}
use Rattle.std.specs.Fmt.{decimal}
use Rattle.std.proofs.lemmas.Bool.Decides.{nat_tests}
use Rattle.text_words.specs.Numbers.{natural_of}
use Rattle.text_words.proofs.Written.{natural_of-decimal, decimal-digits, decimal-some, each-append, each-weaker}
use Rattle.text_words.specs.Text.{Rest, ends_line, line_after, next_line, is_gap, word, later_fields, fields, number}
use Rattle.aig_ascii.specs.Demands.{AllMet}
use Rattle.aig_ascii.specs.Fields.{Test, Want, missing, field_demands, want_demands, wants_demands, none_demands}
use Rattle.aig_ascii.specs.CircuitText.{spaced}
use Rattle.aig_ascii.proofs.FirstFaults.{met-append}
use Rattle.aig_ascii.specs.declared.fault.SharedKind.{SharedKind}

-- a byte of a word: above the space
abbrev pub IsGraphic : ℕ → Type 0
IsGraphic b = 33 ≤ b

-- ---- bytes
graphic-ends : (b : ℕ) (bs : List ℕ) → IsGraphic b → ends_line (b ∷ bs) ≡ false
graphic-ends b bs h =
    let newline : eqb b 10 ≡ false = grind (arith, nat_tests) in
    let return : eqb b 13 ≡ false = grind (arith, nat_tests) in
    ap (λ t. t || (eqb b 13 && ends_line bs)) newline ∙ ap (λ t. t && ends_line bs) return

graphic-gap : (b : ℕ) (bs : List ℕ) → IsGraphic b → is_gap (b ∷ bs) ≡ false
graphic-gap b bs h =
    let space : eqb b 32 ≡ false = grind (arith, nat_tests) in
    ap (λ t. t || ends_line (b ∷ bs)) space ∙ graphic-ends b bs h

word-graphic : (bs rest : List ℕ) → AllByRecursion IsGraphic bs → is_gap rest ≡ true → word (bs ++ rest) ≡ bs
word-graphic [] rest all gap = at_gap rest gap
  where
    at_gap : (rest : List ℕ) → is_gap rest ≡ true → word rest ≡ []
    at_gap [] gap = refl
    at_gap (b ∷ bs) gap = ap (λ t. cond t [] (b ∷ word bs)) gap
word-graphic (b ∷ bs) rest all gap =
    ap (λ t. cond t [] (b ∷ word (bs ++ rest))) (graphic-gap b (bs ++ rest) all.0) ∙ ap (λ w. b ∷ w) (word-graphic bs rest all.1 gap)

decimal-graphic : (n : ℕ) → n < 2 ^ 64 → AllByRecursion IsGraphic (decimal n)
decimal-graphic n few = each-weaker _ IsGraphic (λ b h. omega arith) (decimal n) (decimal-digits n few)

-- ---- fields that spell numbers
-- each field is the number beside it
abbrev pub Spell : List Rest → List ℕ → Type 0
Spell [] [] = Unit {0}
Spell [] (n ∷ ns) = ⊥
Spell (f ∷ fs) [] = ⊥
Spell (f ∷ fs) (n ∷ ns) = (natural_of (word f.bytes) ≡ Some n) × Spell fs ns

abbrev pub AreSmall : List ℕ → Type 0
AreSmall ns = AllByRecursion (λ n. n < 2 ^ 64) ns

-- no field begins within a word
fields-behind : (at : ℕ) (bs rest : List ℕ) (ns : List ℕ) → AllByRecursion IsGraphic bs → ((m : ℕ) → Spell (later_fields m rest) ns) → Spell (later_fields at (bs ++ rest)) ns
fields-behind at [] rest ns all spell = spell at
fields-behind at (b ∷ bs) rest ns all spell =
    let other : eqb b 32 ≡ false = (let h = all.0 in grind (arith, nat_tests)) in
    let more = later_fields (at + 1) (bs ++ rest) in
    let begun : List Rest = record { at = at + 1; bytes = bs ++ rest } ∷ more in
    let is : later_fields at (b ∷ (bs ++ rest)) ≡ more =
    ap (λ t. cond t [] (cond (eqb b 32 && not (is_gap (bs ++ rest))) begun more)) (graphic-ends b (bs ++ rest) all.0)
    ∙ ap (λ t. cond (t && not (is_gap (bs ++ rest))) begun more) other
    in
    subst (λ (fs : List Rest). Spell fs ns) (sym is) (fields-behind (at + 1) bs rest ns all.1 spell)

decimal-gap : (n : ℕ) (rest : List ℕ) → n < 2 ^ 64 → is_gap (decimal n ++ rest) ≡ false
decimal-gap n rest few = front (decimal n) (decimal-some n few) (decimal-graphic n few)
  where
    front : (bs : List ℕ) → 0 < length bs → AllByRecursion IsGraphic bs → is_gap (bs ++ rest) ≡ false
    front [] some all = absurd (omega arith)
    front (b ∷ bs) some all = graphic-gap b (bs ++ rest) all.0

-- the end of a line, with numbers before it
abbrev pub tail_of : List ℕ → List ℕ → List ℕ
tail_of ns rest = spaced ns ++ 10 ∷ rest

tail-gap : (ns rest : List ℕ) → is_gap (tail_of ns rest) ≡ true
tail-gap [] rest = refl
tail-gap (n ∷ ns) rest = refl

pub later-spell : (at : ℕ) (ns rest : List ℕ) → AreSmall ns → Spell (later_fields at (tail_of ns rest)) ns
later-spell at [] rest small = tt
later-spell at (n ∷ ns) rest small =
    let bs = decimal n ++ tail_of ns rest in
    let split : tail_of (n ∷ ns) rest ≡ 32 ∷ bs = ap (λ xs. 32 ∷ xs) (append_assoc (decimal n) (spaced ns) (10 ∷ rest)) in
    let more = later_fields (at + 1) bs in
    let here : Rest = record { at = at + 1; bytes = bs } in
    let is : later_fields at (32 ∷ bs) ≡ here ∷ more = ap (λ t. cond (true && not t) (here ∷ more) more) (decimal-gap n (tail_of ns rest) small.0) in
    let named : natural_of (word bs) ≡ Some n =
    ap natural_of (word-graphic (decimal n) (tail_of ns rest) (decimal-graphic n small.0) (tail-gap ns rest)) ∙ natural_of-decimal n small.0
    in
    subst (λ (xs : List ℕ). Spell (later_fields at xs) (n ∷ ns)) (sym split)
    (subst (λ (fs : List Rest). Spell fs (n ∷ ns)) (sym is)
    (named, fields-behind (at + 1) (decimal n) (tail_of ns rest) ns (decimal-graphic n small.0) (λ m. later-spell m ns rest small.1)))

-- the fields behind a word at the front
pub behind-spell : (at : ℕ) (bs ns rest : List ℕ) → AllByRecursion IsGraphic bs → AreSmall ns → Spell (later_fields at (bs ++ tail_of ns rest)) ns
behind-spell at bs ns rest all small = fields-behind at bs (tail_of ns rest) ns all (λ m. later-spell m ns rest small)

-- a line of numbers
pub line-spell : (at n : ℕ) (ns rest : List ℕ) → AreSmall (n ∷ ns) → Spell (fields (record { at = at; bytes = decimal n ++ tail_of ns rest })) (n ∷ ns)
line-spell at n ns rest small =
    let bs = decimal n ++ tail_of ns rest in
    let here : Rest = record { at = at; bytes = bs } in
    let is : fields here ≡ here ∷ later_fields at bs = ap (λ t. cond t [] (here ∷ later_fields at bs)) (decimal-ends n (tail_of ns rest) small.0) in
    let named : natural_of (word bs) ≡ Some n =
    ap natural_of (word-graphic (decimal n) (tail_of ns rest) (decimal-graphic n small.0) (tail-gap ns rest)) ∙ natural_of-decimal n small.0
    in
    subst (λ (fs : List Rest). Spell fs (n ∷ ns)) (sym is) (named, behind-spell at (decimal n) ns rest (decimal-graphic n small.0) small.1)
  where
    decimal-ends : (n : ℕ) (rest : List ℕ) → n < 2 ^ 64 → ends_line (decimal n ++ rest) ≡ false
    decimal-ends n rest few = front (decimal n) (decimal-some n few) (decimal-graphic n few)
      where
        front : (bs : List ℕ) → 0 < length bs → AllByRecursion IsGraphic bs → ends_line (bs ++ rest) ≡ false
        front [] some all = absurd (omega arith)
        front (b ∷ bs) some all = graphic-ends b (bs ++ rest) all.0

-- ---- the line after
abbrev pub IsInLine : ℕ → Type 0
IsInLine b = b ≢ 10

pub after-newline : (at : ℕ) (bs rest : List ℕ) → AllByRecursion IsInLine bs → (line_after at (bs ++ 10 ∷ rest)).bytes ≡ rest
after-newline at [] rest all = refl
after-newline at (b ∷ bs) rest all =
    let other : eqb b 10 ≡ false = (let h = all.0 in grind (arith, nat_tests)) in
    ap (λ t. (cond t (record { at = at + 1; bytes = bs ++ 10 ∷ rest }) (line_after (at + 1) (bs ++ 10 ∷ rest))).bytes) other ∙ after-newline (at + 1) bs rest all.1

spaced-in_line : (ns : List ℕ) → AreSmall ns → AllByRecursion IsInLine (spaced ns)
spaced-in_line [] small = tt
spaced-in_line (n ∷ ns) small =
    (omega arith, each-append IsInLine (decimal n) (spaced ns) (each-weaker IsGraphic IsInLine (λ b h. omega arith) (decimal n) (decimal-graphic n small.0)) (spaced-in_line ns small.1))

pub after-line : (at : ℕ) (bs ns rest : List ℕ) → AllByRecursion IsGraphic bs → AreSmall ns → (line_after at (bs ++ tail_of ns rest)).bytes ≡ rest
after-line at bs ns rest all small =
    subst (λ (xs : List ℕ). (line_after at xs).bytes ≡ rest) (append_assoc bs (spaced ns) (10 ∷ rest))
    (after-newline at (bs ++ spaced ns) rest (each-append IsInLine bs (spaced ns) (each-weaker IsGraphic IsInLine (λ b h. omega arith) bs all) (spaced-in_line ns small)))

-- ---- lines of numbers, one after another
-- the lines from here on spell these numbers, and then comes what is left
abbrev pub SpellLines : Rest → List (List ℕ) → List ℕ → Type 0
SpellLines r [] rest = r.bytes ≡ rest
SpellLines r (ns ∷ lines) rest = Spell (fields r) ns × SpellLines (next_line r) lines rest

-- numbers on a line, the first at its front
abbrev pub numbers_text : List ℕ → List ℕ
numbers_text [] = 10 ∷ []
numbers_text (n ∷ ns) = decimal n ++ (spaced ns ++ 10 ∷ [])

abbrev pub SmallLines : List (List ℕ) → Type 0
SmallLines lines = AllByRecursion (λ ns. AreSmall ns × (0 < length ns)) lines

numbers-tail : (n : ℕ) (ns rest : List ℕ) → numbers_text (n ∷ ns) ++ rest ≡ decimal n ++ tail_of ns rest
numbers-tail n ns rest = append_assoc (decimal n) (spaced ns ++ 10 ∷ []) rest ∙ ap (λ xs. decimal n ++ xs) (append_assoc (spaced ns) (10 ∷ []) rest)

pub lines-spell : (at : ℕ) (lines : List (List ℕ)) (bytes rest : List ℕ) → SmallLines lines → bytes ≡ flat_map numbers_text lines ++ rest
    → SpellLines (record { at = at; bytes = bytes }) lines rest
lines-spell at [] bytes rest small is = is
lines-spell at ([] ∷ lines) bytes rest small is = absurd (omega (arith, small.0.1))
lines-spell at ((n ∷ ns) ∷ lines) bytes rest small is =
    let later = flat_map numbers_text lines ++ rest in
    let split : bytes ≡ decimal n ++ tail_of ns later = is ∙ (append_assoc (numbers_text (n ∷ ns)) (flat_map numbers_text lines) rest ∙ numbers-tail n ns later) in
    let here : Rest = record { at = at; bytes = bytes } in
    let next : (next_line here).bytes ≡ later =
    subst (λ (xs : List ℕ). (line_after at xs).bytes ≡ later) (sym split) (after-line at (decimal n) ns later (decimal-graphic n small.0.0.0) small.0.0.1)
    in (
      subst (λ (xs : List ℕ). Spell (fields (record { at = at; bytes = xs })) (n ∷ ns)) (sym split) (line-spell at n ns later small.0.0),
      lines-spell (next_line here).at lines (next_line here).bytes rest small.1 next,
    )

-- ---- what is asked of such lines
abbrev pub Passes : {K : Type 0} → List (Test K) → ℕ → Type 0
Passes {K} tests n = AllByRecursion (λ (t : Test K). IsTrue (t.passes n)) tests

-- these numbers are what is wanted
abbrev pub Fit : {K : Type 0} → List (Want K) → List ℕ → Type 0
Fit [] [] = Unit {0}
Fit [] (n ∷ ns) = ⊥
Fit (w ∷ ws) [] = IsTrue w.optional × Fit ws []
Fit (w ∷ ws) (n ∷ ns) = Passes w.tests n × Fit ws ns

number-is : (f : Rest) (n : ℕ) → natural_of (word f.bytes) ≡ Some n → number f ≡ n
number-is f n e = ap (λ o. unwrap_or o 0) e

pub numbers-are : (fs : List Rest) (ns : List ℕ) → Spell fs ns → map number fs ≡ ns
numbers-are [] [] spell = refl
numbers-are [] (n ∷ ns) spell = absurd spell
numbers-are (f ∷ fs) [] spell = absurd spell
numbers-are (f ∷ fs) (n ∷ ns) spell = ap (λ m. m ∷ map number fs) (number-is f n spell.0) ∙ ap (λ ms. n ∷ ms) (numbers-are fs ns spell.1)

tests-met : {K : Type 0} (f : Rest) (n : ℕ) (tests : List (Test K)) → number f ≡ n → Passes tests n → AllMet (map (λ (t : Test K). record { at = f.at; kind = t.kind; met = t.passes (number f) }) tests)
tests-met f n [] e passes = tt
tests-met f n (t ∷ tests) e passes = (ap t.passes e ∙ passes.0, tests-met f n tests e passes.1)

field-met : {K : Type 0} (kind : SharedKind → K) (f : Rest) (n : ℕ) (tests : List (Test K)) → natural_of (word f.bytes) ≡ Some n → Passes tests n → AllMet (field_demands kind tests f)
field-met kind f n tests e passes = (ap is_some e, tests-met f n tests (number-is f n e) passes)

pub wants-fit : {K : Type 0} (kind : SharedKind → K) (r : Rest) (fs : List Rest) (ws : List (Want K)) (ns : List ℕ) → Spell fs ns → Fit ws ns → AllMet (wants_demands kind r fs ws)
wants-fit kind r fs [] ns spell fit = tt
wants-fit {K} kind r [] (w ∷ ws) [] spell fit = met-append (want_demands kind r w []) (wants_demands kind r [] ws) (ap_optional w fit.0) (wants-fit kind r [] ws [] tt fit.1)
  where
    ap_optional : (w : Want K) → IsTrue w.optional → AllMet (want_demands kind r w [])
    ap_optional w o = subst (λ (b : Bool). AllMet (cond b [] (missing kind r ∷ []))) (sym o) tt
wants-fit kind r [] (w ∷ ws) (n ∷ ns) spell fit = absurd spell
wants-fit kind r (f ∷ fs) (w ∷ ws) [] spell fit = absurd spell
wants-fit kind r (f ∷ fs) (w ∷ ws) (n ∷ ns) spell fit =
    met-append (field_demands kind w.tests f) (wants_demands kind r fs ws) (field-met kind f n w.tests spell.0 fit.0) (wants-fit kind r fs ws ns spell.1 fit.1)

pub none-fit : {K : Type 0} (kind : SharedKind → K) (fs : List Rest) (ws : List (Want K)) (ns : List ℕ) → Spell fs ns → Fit ws ns → AllMet (none_demands kind (drop (length ws) fs))
none-fit kind [] ws ns spell fit = subst (λ (fs : List Rest). AllMet (none_demands kind fs)) (sym (drop-none (length ws))) tt
  where
    drop-none : (n : ℕ) → drop {A = Rest} n [] ≡ []
    drop-none zero = refl
    drop-none (suc n) = refl
none-fit kind (f ∷ fs) [] [] spell fit = absurd spell
none-fit kind (f ∷ fs) [] (n ∷ ns) spell fit = absurd fit
none-fit kind (f ∷ fs) (w ∷ ws) [] spell fit = absurd spell
none-fit kind (f ∷ fs) (w ∷ ws) (n ∷ ns) spell fit = none-fit kind fs ws ns spell.1 fit.1
