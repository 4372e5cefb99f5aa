-- Sections of a text that was written: what their lines spell, and that all that is asked of them is met.
use Rattle.std.proofs.Common.{◌≡◌, ◌≢◌, ℕ, ◌⊎◌, inl, inr, ◌+◌, ◌*◌, ◌%◌, ◌≤◌, Bool, true, false, ◌&&◌, ◌||◌, not, IsTrue, nat_eq, nat_le, List, [], ◌∷◌, ◌++◌, map, length, get_or, take, drop, refl, sym, ap, ◌∙◌, subst, arith, Contains}
use Rattle.std.specs.List.{AllByRecursion, flat_map}
use Rattle.std.proofs.lemmas.Bool.Decides.{nat_tests}
use Rattle.std.proofs.lemmas.List.{map-append, take-map, drop-map}
use Rattle.aig_model.specs.Literal.{var}
use Rattle.aig_model.proofs.Elements.{Contains-nil, Contains-cons_cases, Contains-head, Contains-later}
use Rattle.text_words.specs.Text.{Rest, next_line, lines_of, after_lines, fields, number}
use Rattle.aig_ascii.specs.Demands.{AllMet}
use Rattle.aig_ascii.specs.Fields.{Want, line_demands, wants_demands, none_demands}
use Rattle.aig_ascii.specs.Sections.{number_at, defines, is_known, defining, literal, is_reset, Form, wants_of, defined_by, used_by, section_demands, section_uses, use_demands}
use Rattle.aig_ascii.specs.Sections.Form.{input, latch, plain, gate}
use Rattle.aig_ascii.proofs.SpelledLines.{SpellLines, Fit, numbers-are, wants-fit, none-fit}
use Rattle.aig_ascii.specs.Kinds.{aag_kind}
use Rattle.aig_ascii.specs.declared.fault.AagKind.{AagKind}
use Rattle.aig_ascii.proofs.FirstFaults.{met-append}

-- ---- what n lines spell
pub lines-items : {A : Type 0} (f : List ℕ → A) (r : Rest) (lines : List (List ℕ)) (rest : List ℕ) → SpellLines r lines rest
    → map (λ (line : Rest). f (map number (fields line))) (lines_of (length lines) r) ≡ map f lines
lines-items f r [] rest spell = refl
lines-items {A} f r (ns ∷ lines) rest spell =
    let others : List A = map (λ (line : Rest). f (map number (fields line))) (lines_of (length lines) (next_line r)) in
    ap (λ ms. f ms ∷ others) (numbers-are (fields r) ns spell.0) ∙ ap (λ xs. f ns ∷ xs) (lines-items f (next_line r) lines rest spell.1)

pub lines-after : (r : Rest) (lines : List (List ℕ)) (rest : List ℕ) → SpellLines r lines rest → (after_lines (length lines) r).bytes ≡ rest
lines-after r [] rest spell = spell
lines-after r (ns ∷ lines) rest spell = lines-after (next_line r) lines rest spell.1

-- ---- what is asked of a line, by its first number
abbrev pub wants_for : Form → ℕ → List ℕ → ℕ → List (Want AagKind)
wants_for input top earlier first = defining top earlier ∷ []
wants_for latch top earlier first = defining top earlier ∷ literal aag_kind top ∷ record { optional = true; tests = is_reset aag_kind first ∷ [] } ∷ []
wants_for plain top earlier first = literal aag_kind top ∷ []
wants_for gate top earlier first = defining top earlier ∷ literal aag_kind top ∷ literal aag_kind top ∷ []

abbrev pub defined_for : Form → ℕ → List ℕ
defined_for input first = first ∷ []
defined_for latch first = first ∷ []
defined_for plain first = []
defined_for gate first = first ∷ []

wants-by_first : (form : Form) (top : ℕ) (earlier : List ℕ) (line : Rest) → wants_of form top earlier line ≡ wants_for form top earlier (number_at line 0)
wants-by_first input top earlier line = refl
wants-by_first latch top earlier line = refl
wants-by_first plain top earlier line = refl
wants-by_first gate top earlier line = refl

defined-by_first : (form : Form) (line : Rest) → defined_by form line ≡ defined_for form (number_at line 0)
defined-by_first input line = refl
defined-by_first latch line = refl
defined-by_first plain line = refl
defined-by_first gate line = refl

-- these lines are what is wanted of a section
abbrev pub SectionFits : Form → ℕ → List ℕ → List (List ℕ) → Type 0
SectionFits form top earlier [] = Unit {0}
SectionFits form top earlier (ns ∷ lines) =
    Fit (wants_for form top earlier (get_or ns 0 0)) ns × SectionFits form top (earlier ++ defined_for form (get_or ns 0 0)) lines

pub section-met : (form : Form) (top : ℕ) (earlier : List ℕ) (r : Rest) (lines : List (List ℕ)) (rest : List ℕ) → SpellLines r lines rest → SectionFits form top earlier lines
    → AllMet (section_demands form (length lines) top earlier r)
section-met form top earlier r [] rest spell fit = tt
section-met form top earlier r (ns ∷ lines) rest spell fit =
    let first : number_at r 0 ≡ get_or ns 0 0 = ap (λ (ms : List ℕ). get_or ms 0 0) (numbers-are (fields r) ns spell.0) in
    let wants : wants_of form top earlier r ≡ wants_for form top earlier (get_or ns 0 0) = wants-by_first form top earlier r ∙ ap (wants_for form top earlier) first in
    let defs : defined_by form r ≡ defined_for form (get_or ns 0 0) = defined-by_first form r ∙ ap (defined_for form) first in
    let here : AllMet (line_demands aag_kind (wants_of form top earlier r) r) =
    subst (λ (ws : List (Want AagKind)). AllMet (line_demands aag_kind ws r)) (sym wants)
    (met-append (wants_demands aag_kind r (fields r) (wants_for form top earlier (get_or ns 0 0))) (none_demands aag_kind (drop (length (wants_for form top earlier (get_or ns 0 0))) (fields r)))
    (wants-fit aag_kind r (fields r) (wants_for form top earlier (get_or ns 0 0)) ns spell.0 fit.0) (none-fit aag_kind (fields r) (wants_for form top earlier (get_or ns 0 0)) ns spell.0 fit.0))
    in
    met-append (line_demands aag_kind (wants_of form top earlier r) r) (section_demands form (length lines) top (earlier ++ defined_by form r) (next_line r)) here
    (subst (λ (ds : List ℕ). AllMet (section_demands form (length lines) top (earlier ++ ds) (next_line r))) (sym defs)
    (section-met form top (earlier ++ defined_for form (get_or ns 0 0)) (next_line r) lines rest spell.1 fit.1))

-- ---- what lines use
abbrev pub used_for : Form → List ℕ → List ℕ
used_for input ns = []
used_for latch ns = take 1 (drop 1 ns)
used_for plain ns = take 1 ns
used_for gate ns = take 2 (drop 1 ns)

used-by_numbers : (form : Form) (line : Rest) → map number (used_by form line) ≡ used_for form (map number (fields line))
used-by_numbers input line = refl
used-by_numbers latch line = sym (take-map number 1 (drop 1 (fields line))) ∙ ap (take 1) (sym (drop-map number 1 (fields line)))
used-by_numbers plain line = sym (take-map number 1 (fields line))
used-by_numbers gate line = sym (take-map number 2 (drop 1 (fields line))) ∙ ap (take 2) (sym (drop-map number 1 (fields line)))

pub section-uses_numbers : (form : Form) (r : Rest) (lines : List (List ℕ)) (rest : List ℕ) → SpellLines r lines rest
    → map number (section_uses form (length lines) r) ≡ flat_map (used_for form) lines
section-uses_numbers form r [] rest spell = refl
section-uses_numbers form r (ns ∷ lines) rest spell =
    let later = section_uses form (length lines) (next_line r) in
    map-append number (used_by form r) later
    ∙ (ap (λ ms. ms ++ map number later) (used-by_numbers form r ∙ ap (used_for form) (numbers-are (fields r) ns spell.0))
    ∙ ap (λ ms. used_for form ns ++ ms) (section-uses_numbers form (next_line r) lines rest spell.1))

pub uses-met : (defs : List ℕ) (fs : List Rest) → AllByRecursion (λ lit. IsTrue (is_known defs lit)) (map number fs) → AllMet (use_demands defs fs)
uses-met defs [] known = tt
uses-met defs (f ∷ fs) known = (known.0, uses-met defs fs known.1)

-- ---- literals that are defined
pub defines-from_Contains : (lits : List ℕ) (v : ℕ) → Contains (map var lits) v → defines lits v ≡ true
defines-from_Contains [] v found = absurd (Contains-nil v found)
defines-from_Contains (lit ∷ lits) v found =
    elim (Contains-cons_cases (var lit) v (map var lits) found) [
      | inl e ↦ ap (λ b. b || defines lits v) (let same : nat_eq (var lit) v ≡ true = grind (arith, nat_tests) in same)
      | inr later ↦ or_true (nat_eq (var lit) v) (defines lits v) (defines-from_Contains lits v later)
    ]
  where
    or_true : (a b : Bool) → b ≡ true → (a || b) ≡ true
    or_true true b e = refl
    or_true false b e = e

pub defines-none : (lits : List ℕ) (v : ℕ) → (¬ Contains (map var lits) v) → defines lits v ≡ false
defines-none [] v none = refl
defines-none (lit ∷ lits) v none =
    let other : nat_eq (var lit) v ≡ false = (let ne : var lit ≢ v = λ e. none (Contains-head (var lit) v (map var lits) e) in grind (arith, nat_tests)) in
    ap (λ b. b || defines lits v) other ∙ defines-none lits v (λ later. none (Contains-later (var lit) v (map var lits) later))

pub known-true : (lits : List ℕ) (lit : ℕ) → (var lit ≡ 0) ⊎ Contains (map var lits) (var lit) → is_known lits lit ≡ true
known-true lits lit (inl e) = ap (λ b. b || defines lits (var lit)) (let zero : nat_eq (var lit) 0 ≡ true = grind (arith, nat_tests) in zero)
known-true lits lit (inr found) = or_true (nat_eq (var lit) 0) (defines lits (var lit)) (defines-from_Contains lits (var lit) found)
  where
    or_true : (a b : Bool) → b ≡ true → (a || b) ≡ true
    or_true true b e = refl
    or_true false b e = e

-- ---- tests that literals pass
pub range-passes : (top lit : ℕ) → lit ≤ 2 * top + 1 → IsTrue (nat_le lit (2 * top + 1))
range-passes top lit h = grind (arith, nat_tests)

pub new-passes : (earlier : List ℕ) (lit : ℕ) → lit % 2 ≡ 0 → 2 ≤ lit → (¬ Contains (map var earlier) (var lit))
    → IsTrue (nat_eq (lit % 2) 0 && nat_le 2 lit && not (defines earlier (var lit)))
new-passes earlier lit even positive new =
    let first : nat_eq (lit % 2) 0 ≡ true = grind (arith, nat_tests) in
    let second : nat_le 2 lit ≡ true = grind (arith, nat_tests) in
    let third : defines earlier (var lit) ≡ false = defines-none earlier (var lit) new in
    ap (λ b. b && nat_le 2 lit && not (defines earlier (var lit))) first
    ∙ (ap (λ b. true && b && not (defines earlier (var lit))) second ∙ ap (λ b. true && true && not b) third)
