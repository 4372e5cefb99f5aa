-- Symbol lines that stand behind a file's beginning: what is asked of them is the same, and places count from there.
use Rattle.std.proofs.Common.{◌≡◌, ℕ, ◌+◌, ◌<◌, ◌≤◌, Bool, true, false, cond, ◌==◌, Some, None, List, [], ◌∷◌, ◌++◌, length, map, refl, sym, ap, ◌∙◌, subst, arith}
use Rattle.std.specs.Option.{option_map, option_to_list}
use Rattle.std.specs.List.{cons_option}
use Rattle.aig_model.specs.declared.parts.Named.{Named}
use Rattle.text_words.specs.Text.{Rest, whole, line_bytes, later_lines, all_lines}
use Rattle.aig_ascii.specs.Symbols.{begins_comment, is_empty, symbol_lines, symbol_on, symbol_demands, symbols_of, is_right}
use Rattle.aig_ascii.specs.FirstFaults.{first_unmet, Fails}
use Rattle.aig_ascii.specs.declared.header.Sizes.{Sizes}
use Rattle.aig_ascii.specs.declared.fault.Fault.{Fault}
use Rattle.aig_ascii.specs.declared.fault.Fault.TheVariants as faults
use Rattle.aig_ascii.specs.declared.fault.SharedKind.TheVariants.{Symbol}
use Rattle.aig_ascii.proofs.FirstFaults.{Unmet, one-unmet, clash}
use Rattle.aig_binary.specs.Kinds.{aig_kind}
use Rattle.aig_binary.specs.ReadSections.{moved, CanMove}
use Rattle.aig_binary.specs.declared.fault.AigKind.{AigKind}

abbrev moved_rest : ℕ → Rest → Rest
moved_rest by r = record { at = by + r.at; bytes = r.bytes }

abbrev moved_place : ℕ → (ℕ × AigKind) → (ℕ × AigKind)
moved_place by p = (by + p.0, p.1)

later-moved : (by at : ℕ) (bs : List ℕ) → later_lines (by + at) bs ≡ map (moved_rest by) (later_lines at bs)
later-moved by at [] = refl
later-moved by at (b ∷ bs) =
    let e : by + at + 1 ≡ by + (at + 1) = omega arith in
    let rest = ap (λ n. later_lines n bs) e ∙ later-moved by (at + 1) bs in
    let step : (t : Bool) → cond t (record { at = by + at + 1; bytes = bs } ∷ later_lines (by + at + 1) bs) (later_lines (by + at + 1) bs)
    ≡ map (moved_rest by) (cond t (record { at = at + 1; bytes = bs } ∷ later_lines (at + 1) bs) (later_lines (at + 1) bs)) = λ t. elim t as (λ v. cond v (record { at = by + at + 1; bytes = bs } ∷ later_lines (by + at + 1) bs) (later_lines (by + at + 1) bs)
    ≡ map (moved_rest by) (cond v (record { at = at + 1; bytes = bs } ∷ later_lines (at + 1) bs) (later_lines (at + 1) bs))) [
      | true ↦ ap (λ (n : ℕ). let r : Rest = record { at = n; bytes = bs } in r ∷ later_lines (by + at + 1) bs) e ∙ ap (λ (rs : List Rest). let r : Rest = record { at = by + (at + 1); bytes = bs } in r ∷ rs) rest
      | false ↦ rest
    ] in
    step (b == 10)

symbol_lines-moved : (by : ℕ) (lines : List Rest) → symbol_lines (map (moved_rest by) lines) ≡ map (moved_rest by) (symbol_lines lines)
symbol_lines-moved by [] = refl
symbol_lines-moved by (r ∷ rs) =
    let rest = symbol_lines-moved by rs in
    let here = moved_rest by r in
    let inner : (t : Bool) → cond t (symbol_lines (map (moved_rest by) rs)) (here ∷ symbol_lines (map (moved_rest by) rs)) ≡ map (moved_rest by) (cond t (symbol_lines rs) (r ∷ symbol_lines rs)) = λ t. elim t as (λ v. cond v (symbol_lines (map (moved_rest by) rs)) (here ∷ symbol_lines (map (moved_rest by) rs)) ≡ map (moved_rest by) (cond v (symbol_lines rs) (r ∷ symbol_lines rs))) [
      | true ↦ rest
      | false ↦ ap (λ xs. here ∷ xs) rest
    ] in
    let empty = is_empty (line_bytes r.bytes) in
    let step : (t : Bool) → cond t [] (cond empty (symbol_lines (map (moved_rest by) rs)) (here ∷ symbol_lines (map (moved_rest by) rs))) ≡ map (moved_rest by) (cond t [] (cond empty (symbol_lines rs) (r ∷ symbol_lines rs))) = λ t. elim t as (λ v. cond v [] (cond empty (symbol_lines (map (moved_rest by) rs)) (here ∷ symbol_lines (map (moved_rest by) rs))) ≡ map (moved_rest by) (cond v [] (cond empty (symbol_lines rs) (r ∷ symbol_lines rs)))) [
      | true ↦ refl
      | false ↦ inner empty
    ] in
    step (begins_comment (line_bytes r.bytes))

symbols_of-moved : (by : ℕ) (lines : List Rest) → symbols_of (map (moved_rest by) lines) ≡ symbols_of lines
symbols_of-moved by [] = refl
symbols_of-moved by (r ∷ rs) =
    ap (cons_option (symbol_on r)) (symbols_of-moved by rs)

demands-moved : (by : ℕ) (sizes : Sizes) (earlier : List Named) (lines : List Rest)
    → first_unmet (symbol_demands aig_kind sizes earlier (map (moved_rest by) lines)) ≡ option_map (moved_place by) (first_unmet (symbol_demands aig_kind sizes earlier lines))
demands-moved by sizes earlier [] = refl
demands-moved by sizes earlier (r ∷ rs) =
    let next = earlier ++ option_to_list (symbol_on r) in
    let rest = demands-moved by sizes next rs in
    let kind = aig_kind Symbol in
    let step : (t : Bool) → cond t (first_unmet (symbol_demands aig_kind sizes next (map (moved_rest by) rs))) (Some (by + r.at, kind))
    ≡ option_map (moved_place by) (cond t (first_unmet (symbol_demands aig_kind sizes next rs)) (Some (r.at, kind))) = λ t. elim t as (λ v. cond v (first_unmet (symbol_demands aig_kind sizes next (map (moved_rest by) rs))) (Some (by + r.at, kind))
    ≡ option_map (moved_place by) (cond v (first_unmet (symbol_demands aig_kind sizes next rs)) (Some (r.at, kind)))) [
      | true ↦ rest
      | false ↦ refl
    ] in
    step (is_right sizes earlier (symbol_on r))

-- ---- from a place on

all-moved : (r : Rest) → all_lines r ≡ map (moved_rest r.at) (all_lines (whole r.bytes))
all-moved r =
    let e : r.at ≡ r.at + 0 = omega arith in
    ap (λ (n : ℕ). let s : Rest = record { at = n; bytes = r.bytes } in s ∷ later_lines r.at r.bytes) e
    ∙ ap (λ xs. moved_rest r.at (whole r.bytes) ∷ xs) (ap (λ n. later_lines n r.bytes) e ∙ later-moved r.at 0 r.bytes)

lines-moved : (r : Rest) → symbol_lines (all_lines r) ≡ map (moved_rest r.at) (symbol_lines (all_lines (whole r.bytes)))
lines-moved r = ap symbol_lines (all-moved r) ∙ symbol_lines-moved r.at (all_lines (whole r.bytes))

pub names-moved : (r : Rest) → symbols_of (symbol_lines (all_lines r)) ≡ symbols_of (symbol_lines (all_lines (whole r.bytes)))
names-moved r = ap symbols_of (lines-moved r) ∙ symbols_of-moved r.at (symbol_lines (all_lines (whole r.bytes)))

unmet-moved : (sizes : Sizes) (r : Rest)
    → first_unmet (symbol_demands aig_kind sizes [] (symbol_lines (all_lines r))) ≡ option_map (moved_place r.at) (first_unmet (symbol_demands aig_kind sizes [] (symbol_lines (all_lines (whole r.bytes)))))
unmet-moved sizes r =
    ap (λ (ls : List Rest). first_unmet (symbol_demands aig_kind sizes [] ls)) (lines-moved r) ∙ demands-moved r.at sizes [] (symbol_lines (all_lines (whole r.bytes)))

pub met-moved : (sizes : Sizes) (r : Rest) → first_unmet (symbol_demands aig_kind sizes [] (symbol_lines (all_lines (whole r.bytes)))) ≡ None
    → first_unmet (symbol_demands aig_kind sizes [] (symbol_lines (all_lines r))) ≡ None
met-moved sizes r met = unmet-moved sizes r ∙ ap (option_map (moved_place r.at)) met

fails-moved : (by : ℕ) (e : Fault AigKind) (o : Unmet AigKind) → Fails e o → Fails (moved by e) (option_map (moved_place by) o)
fails-moved by (faults.At at kind) o f = ap (option_map (moved_place by)) f
fails-moved by faults.OutOfMemory o f = tt

pub moved-fails : (sizes : Sizes) (r : Rest) (e : Fault AigKind) → Fails e (first_unmet (symbol_demands aig_kind sizes [] (symbol_lines (all_lines (whole r.bytes)))))
    → Fails (moved r.at e) (first_unmet (symbol_demands aig_kind sizes [] (symbol_lines (all_lines r))))
moved-fails sizes r e f =
    subst (λ (o : Unmet AigKind). Fails (moved r.at e) o) (sym (unmet-moved sizes r)) (fails-moved r.at e (first_unmet (symbol_demands aig_kind sizes [] (symbol_lines (all_lines (whole r.bytes))))) f)

-- ---- places within the file

abbrev AtMost : ℕ → List Rest → Type 0
AtMost n [] = Unit {0}
AtMost n (r ∷ rs) = (r.at ≤ n) × AtMost n rs

later-at-most : (at n : ℕ) (bs : List ℕ) → at + length bs ≤ n → AtMost n (later_lines at bs)
later-at-most at n [] h = tt
later-at-most at n (b ∷ bs) h =
    let rest = later-at-most (at + 1) n bs (omega arith) in
    let step : (t : Bool) → AtMost n (cond t (record { at = at + 1; bytes = bs } ∷ later_lines (at + 1) bs) (later_lines (at + 1) bs)) = λ t. elim t as (λ v. AtMost n (cond v (record { at = at + 1; bytes = bs } ∷ later_lines (at + 1) bs) (later_lines (at + 1) bs))) [
      | true ↦ (omega arith, rest)
      | false ↦ rest
    ] in
    step (b == 10)

symbols-at-most : (n : ℕ) (lines : List Rest) → AtMost n lines → AtMost n (symbol_lines lines)
symbols-at-most n [] h = tt
symbols-at-most n (r ∷ rs) h =
    let rest = symbols-at-most n rs h.1 in
    let inner : (t : Bool) → AtMost n (cond t (symbol_lines rs) (r ∷ symbol_lines rs)) = λ t. elim t as (λ v. AtMost n (cond v (symbol_lines rs) (r ∷ symbol_lines rs))) [
      | true ↦ rest
      | false ↦ (h.0, rest)
    ] in
    let step : (t : Bool) → AtMost n (cond t [] (cond (is_empty (line_bytes r.bytes)) (symbol_lines rs) (r ∷ symbol_lines rs))) = λ t. elim t as (λ v. AtMost n (cond v [] (cond (is_empty (line_bytes r.bytes)) (symbol_lines rs) (r ∷ symbol_lines rs)))) [
      | true ↦ tt
      | false ↦ inner (is_empty (line_bytes r.bytes))
    ] in
    step (begins_comment (line_bytes r.bytes))

unmet-at-most : (n : ℕ) (sizes : Sizes) (earlier : List Named) (lines : List Rest) (at : ℕ) (kind : AigKind) → AtMost n lines → first_unmet (symbol_demands aig_kind sizes earlier lines) ≡ Some (at, kind) → at ≤ n
unmet-at-most n sizes earlier [] at kind h e = absurd (clash None (at, kind) e refl)
unmet-at-most n sizes earlier (r ∷ rs) at kind h e =
    let next = earlier ++ option_to_list (symbol_on r) in
    let step : (t : Bool) → cond t (first_unmet (symbol_demands aig_kind sizes next rs)) (Some (r.at, aig_kind Symbol)) ≡ Some (at, kind) → at ≤ n = λ t. elim t as (λ v. cond v (first_unmet (symbol_demands aig_kind sizes next rs)) (Some (r.at, aig_kind Symbol)) ≡ Some (at, kind) → at ≤ n) [
      | true ↦ λ f. unmet-at-most n sizes next rs at kind h.1 f
      | false ↦ λ f. let same = ap (λ (p : ℕ × AigKind). p.0) (one-unmet (Some (r.at, aig_kind Symbol)) (r.at, aig_kind Symbol) (at, kind) refl f) in let low = h.0 in omega arith
    ] in
    step (is_right sizes earlier (symbol_on r)) e

pub can-move : (by : ℕ) (sizes : Sizes) (bytes : List ℕ) (e : Fault AigKind) → by + length bytes < 18446744073709551616
    → Fails e (first_unmet (symbol_demands aig_kind sizes [] (symbol_lines (all_lines (whole bytes))))) → CanMove by e
can-move by sizes bytes (faults.At at kind) small f =
    let n = length bytes in
    let within = symbols-at-most n (all_lines (whole bytes)) (omega arith, later-at-most 0 n bytes (omega arith)) in
    let low : at ≤ n = unmet-at-most n sizes [] (symbol_lines (all_lines (whole bytes))) at kind within f in
    omega arith
can-move by sizes bytes faults.OutOfMemory small f = tt
