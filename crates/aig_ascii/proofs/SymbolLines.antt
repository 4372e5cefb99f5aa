-- What a symbol's line spells, and what is asked of the lines behind the gates.
use Rattle.std.proofs.Common.{◌≡◌, ◌≢◌, ℕ, ◌+◌, ◌*◌, ◌<◌, ◌≤◌, min, Bool, true, false, cond, not, ◌&&◌, eqb, nat_lt, option_and_then, Option, Some, None, List, [], ◌∷◌, ◌++◌, length, refl, sym, ap, ◌∙◌, subst, inl, inr, append_assoc, arith}
use Rattle.std.specs.Option.{option_to_list}
use Rattle.std.specs.Char.{is_ascii_digit, digit_value}
use Rattle.std.specs.Str.{all_ascii_digits}
use Rattle.std.specs.Str.Parse.{digits_value_after}
use Rattle.std.proofs.lemmas.Bool.Decides.{nat_tests}
use Rattle.std.proofs.lemmas.Bool.{cases_lt}
use Rattle.std.proofs.lemmas.List.{append-nil}
use Rattle.text_words.specs.Numbers.{natural_of}
use Rattle.aig_model.specs.WellFormed.{limit}
use Rattle.aig_model.specs.declared.parts.Place.{Place}
use Rattle.aig_model.specs.declared.parts.Place.TheVariants as places
use Rattle.aig_model.specs.declared.parts.Named.{Named}
use Rattle.text_words.specs.Text.{Rest, line_bytes, line_after, next_line, later_lines, all_lines, leading_digits, behind_digits, digits_after}
use Rattle.aig_ascii.specs.Demands.{demand}
use Rattle.aig_ascii.specs.Header.{AreFew}
use Rattle.aig_ascii.specs.Symbols.{begins_comment, is_empty, symbol_lines, symbol_on, symbol_demands, symbols_of, place_at, name_behind, named, symbol_of, exists_in, is_right}
use Rattle.aig_ascii.specs.SymbolTables.{Table, if_exists, place_within, exists_symbol, symbol_line_demands}
use Rattle.aig_ascii.specs.FirstFaults.{first_unmet, Fails}
use Rattle.aig_ascii.specs.declared.header.Sizes.{Sizes}
use Rattle.aig_ascii.specs.declared.fault.Fault.{Fault}
use Rattle.aig_ascii.specs.declared.fault.SharedKind.TheVariants.{Symbol}
use Rattle.text_words.proofs.Fields.{length-behind_digits}
use Rattle.aig_ascii.proofs.FirstFaults.{Unmet, first_unmet-behind, fails-front}
use Rattle.aig_ascii.specs.declared.fault.SharedKind.{SharedKind}

-- ---- the digits of a symbol

all-leading : (bs : List ℕ) → all_ascii_digits (leading_digits bs) ≡ true
all-leading [] = refl
all-leading (b ∷ bs) =
    let step : (t : Bool) → is_ascii_digit b ≡ t → all_ascii_digits (cond t (b ∷ leading_digits bs) []) ≡ true = λ t. elim t as (λ v. is_ascii_digit b ≡ v → all_ascii_digits (cond v (b ∷ leading_digits bs) []) ≡ true) [
      | true ↦ λ d. ap (λ v. v && all_ascii_digits (leading_digits bs)) d ∙ all-leading bs
      | false ↦ λ d. refl
    ] in
    step (is_ascii_digit b) refl

value-leading : (n : ℕ) (bs : List ℕ) → digits_value_after 10 n (leading_digits bs) ≡ digits_after n bs
value-leading n [] = refl
value-leading n (b ∷ bs) =
    let step : (t : Bool) → digits_value_after 10 n (cond t (b ∷ leading_digits bs) []) ≡ cond t (digits_after (n * 10 + digit_value b) bs) n = λ t. elim t as (λ v. digits_value_after 10 n (cond v (b ∷ leading_digits bs) []) ≡ cond v (digits_after (n * 10 + digit_value b) bs) n) [
      | true ↦ value-leading (n * 10 + digit_value b) bs
      | false ↦ refl
    ] in
    step (is_ascii_digit b)

natural_of-digits : (b : ℕ) (ds : List ℕ) → all_ascii_digits (b ∷ ds) ≡ true → natural_of (b ∷ ds) ≡ Some (digits_value_after 10 0 (b ∷ ds))
natural_of-digits b ds e = ap (λ t. cond t (Some (digits_value_after 10 0 (b ∷ ds))) None) e

pub leading-none : (bs : List ℕ) → length (behind_digits bs) ≡ length bs → natural_of (leading_digits bs) ≡ None
leading-none [] e = refl
leading-none (b ∷ bs) e =
    let step : (t : Bool) → length (cond t (behind_digits bs) (b ∷ bs)) ≡ length (b ∷ bs) → natural_of (cond t (b ∷ leading_digits bs) []) ≡ None = λ t. elim t as (λ v. length (cond v (behind_digits bs) (b ∷ bs)) ≡ length (b ∷ bs) → natural_of (cond v (b ∷ leading_digits bs) []) ≡ None) [
      | true ↦ λ h. absurd (omega (arith, length-behind_digits bs))
      | false ↦ λ h. refl
    ] in
    step (is_ascii_digit b) e

pub leading-some : (bs : List ℕ) → length (behind_digits bs) ≢ length bs → natural_of (leading_digits bs) ≡ Some (digits_after 0 bs)
leading-some [] e = absurd (e refl)
leading-some (b ∷ bs) e =
    let step : (t : Bool) → is_ascii_digit b ≡ t → natural_of (leading_digits (b ∷ bs)) ≡ Some (digits_after 0 (b ∷ bs)) = λ t. elim t as (λ v. is_ascii_digit b ≡ v → natural_of (leading_digits (b ∷ bs)) ≡ Some (digits_after 0 (b ∷ bs))) [
      | true ↦ λ d.
          let front : leading_digits (b ∷ bs) ≡ b ∷ leading_digits bs = ap (λ t. cond t (b ∷ leading_digits bs) []) d in
          ap natural_of front ∙ natural_of-digits b (leading_digits bs) (ap all_ascii_digits (sym front) ∙ all-leading (b ∷ bs))
          ∙ ap Some (ap (digits_value_after 10 0) (sym front) ∙ value-leading 0 (b ∷ bs))
      | false ↦ λ d. absurd (e (ap (λ t. length (cond t (behind_digits bs) (b ∷ bs))) d))
    ] in
    step (is_ascii_digit b) refl

-- ---- the item

pub named-none : (o : Option (List ℕ)) → named None o ≡ None
named-none None = refl
named-none (Some name) = refl

pub exists-none : (sizes : Sizes) (o : Option Place) (name : List ℕ) → if_exists sizes o ≡ None → exists_symbol sizes (named o (Some name)) ≡ false
exists-none sizes None name e = refl
exists-none sizes (Some place) name e =
    let step : (t : Bool) → cond t (Some place) None ≡ None → t ≡ false = λ t. elim t as (λ v. cond v (Some place) None ≡ None → v ≡ false) [
      | true ↦ λ h. cc
      | false ↦ λ h. refl
    ] in
    step (exists_in sizes place) e

pub exists-some : (sizes : Sizes) (o : Option Place) (p : Place) → if_exists sizes o ≡ Some p → (o ≡ Some p) × (exists_in sizes p ≡ true)
exists-some sizes None p e = cc
exists-some sizes (Some place) p e =
    let step : (t : Bool) → exists_in sizes place ≡ t → cond t (Some place) None ≡ Some p → (◌≡◌ {A = Option Place} (Some place) (Some p)) × (exists_in sizes p ≡ true) = λ t. elim t as (λ v. exists_in sizes place ≡ v → cond v (Some place) None ≡ Some p → (◌≡◌ {A = Option Place} (Some place) (Some p)) × (exists_in sizes p ≡ true)) [
      | true ↦ λ is h. let same : place ≡ p = cc in (h, ap (exists_in sizes) (sym same) ∙ is)
      | false ↦ λ is h. cc
    ] in
    step (exists_in sizes place) refl e

-- an index that is cut down to the greatest u64 names no item, as before
within-large : (sizes : Sizes) (letter k : ℕ) → AreFew sizes → 4000000 ≤ k → place_within sizes letter k ≡ None
within-large sizes letter k few large =
    let none : (count : ℕ) (place : Place) → count ≤ limit → cond (nat_lt k count) (Some place) None ≡ None = λ count place h. let small : nat_lt k count ≡ false = grind (arith, nat_tests) in ap (λ t. cond t (Some place) None) small in
    let i = places.Input k in
    let l = places.Latch k in
    let o = places.Output k in
    let b = places.Bad k in
    let c = places.Constraint k in
    let fifth : (t : Bool) → if_exists sizes (cond t (Some c) None) ≡ None = λ t. elim t as (λ v. if_exists sizes (cond v (Some c) None) ≡ None) [ true ↦ none sizes.constraints c few.constraints | false ↦ refl ] in
    let fourth : (t : Bool) → if_exists sizes (cond t (Some b) (cond (eqb letter 99) (Some c) None)) ≡ None = λ t. elim t as (λ v. if_exists sizes (cond v (Some b) (cond (eqb letter 99) (Some c) None)) ≡ None) [ true ↦ none sizes.bads b few.bads | false ↦ fifth (eqb letter 99) ] in
    let rest4 = cond (eqb letter 98) (Some b) (cond (eqb letter 99) (Some c) None) in
    let third : (t : Bool) → if_exists sizes (cond t (Some o) rest4) ≡ None = λ t. elim t as (λ v. if_exists sizes (cond v (Some o) rest4) ≡ None) [ true ↦ none sizes.outputs o few.outputs | false ↦ fourth (eqb letter 98) ] in
    let rest3 = cond (eqb letter 111) (Some o) rest4 in
    let second : (t : Bool) → if_exists sizes (cond t (Some l) rest3) ≡ None = λ t. elim t as (λ v. if_exists sizes (cond v (Some l) rest3) ≡ None) [ true ↦ none sizes.latches l few.latches | false ↦ third (eqb letter 111) ] in
    let rest2 = cond (eqb letter 108) (Some l) rest3 in
    let first : (t : Bool) → if_exists sizes (cond t (Some i) rest2) ≡ None = λ t. elim t as (λ v. if_exists sizes (cond v (Some i) rest2) ≡ None) [ true ↦ none sizes.inputs i few.inputs | false ↦ second (eqb letter 108) ] in
    first (eqb letter 105)

pub within-cut : (sizes : Sizes) (letter n k : ℕ) → AreFew sizes → k ≡ min n 18446744073709551615 → place_within sizes letter k ≡ place_within sizes letter n
within-cut sizes letter n k few is =
    elim (cases_lt n 18446744073709551615) as (λ _. place_within sizes letter k ≡ place_within sizes letter n) [
      | inl h ↦ ap (place_within sizes letter) (omega arith)
      | inr h ↦ within-large sizes letter k few (omega arith) ∙ sym (within-large sizes letter n few (omega arith))
    ]

-- a line by its letter, digits, space and name
pub symbol_of-parts : (line bs name : List ℕ) (letter space n : ℕ) → line ≡ letter ∷ bs → natural_of (leading_digits bs) ≡ Some n → behind_digits bs ≡ space ∷ name → space ≡ 32 → is_empty name ≡ false
    → symbol_of line ≡ named (place_at letter n) (Some name)
symbol_of-parts line bs name letter space n is digits behind at some =
    ap symbol_of is
    ∙ ap (λ o. named (option_and_then (place_at letter) o) (name_behind (behind_digits bs))) digits
    ∙ ap (λ xs. named (place_at letter n) (name_behind xs)) behind
    ∙ ap (λ x. named (place_at letter n) (cond (eqb x 32 && not (is_empty name)) (Some name) None)) at
    ∙ ap (λ t. named (place_at letter n) (cond (not t) (Some name) None)) some

pub some-name : (name : List ℕ) → length name ≢ 0 → is_empty name ≡ false
some-name [] e = absurd (e refl)
some-name (b ∷ bs) e = refl

-- ---- the lines

symbol_lines-later : (at : ℕ) (bs : List ℕ) → symbol_lines (later_lines at bs) ≡ symbol_lines (all_lines (line_after at bs))
symbol_lines-later at [] = refl
symbol_lines-later at (b ∷ bs) =
    let step : (t : Bool) → symbol_lines (cond t (record { at = at + 1; bytes = bs } ∷ later_lines (at + 1) bs) (later_lines (at + 1) bs)) ≡ symbol_lines (all_lines (cond t (record { at = at + 1; bytes = bs }) (line_after (at + 1) bs))) = λ t. elim t as (λ v. symbol_lines (cond v (record { at = at + 1; bytes = bs } ∷ later_lines (at + 1) bs) (later_lines (at + 1) bs)) ≡ symbol_lines (all_lines (cond v (record { at = at + 1; bytes = bs }) (line_after (at + 1) bs)))) [
      | true ↦ refl
      | false ↦ symbol_lines-later (at + 1) bs
    ] in
    step (eqb b 10)

pub symbol_lines-next : (r : Rest) → begins_comment (line_bytes r.bytes) ≡ false
    → symbol_lines (all_lines r) ≡ cond (is_empty (line_bytes r.bytes)) (symbol_lines (all_lines (next_line r))) (r ∷ symbol_lines (all_lines (next_line r)))
symbol_lines-next r e =
    let later = symbol_lines (later_lines r.at r.bytes) in
    let empty = is_empty (line_bytes r.bytes) in
    ap (λ t. cond t [] (cond empty later (r ∷ later))) e ∙ ap (λ ls. cond empty ls (r ∷ ls)) (symbol_lines-later r.at r.bytes)

pub symbol_lines-comment : (r : Rest) → begins_comment (line_bytes r.bytes) ≡ true → symbol_lines (all_lines r) ≡ []
symbol_lines-comment r e =
    let later = symbol_lines (later_lines r.at r.bytes) in
    ap (λ t. cond t [] (cond (is_empty (line_bytes r.bytes)) later (r ∷ later))) e

-- ---- a line before the comment, and those after it

pub symbols-step : {K : Type 0} (kind : SharedKind → K) (t : Table) (sizes : Sizes) (r : Rest) → t.sizes ≡ sizes → begins_comment (line_bytes r.bytes) ≡ false
    → symbol_demands kind sizes t.names (symbol_lines (all_lines r)) ≡ symbol_line_demands kind t r ++ symbol_demands kind sizes (t.names ++ option_to_list (symbol_on r)) (symbol_lines (all_lines (next_line r)))
symbols-step kind t sizes r is more =
    let later = symbol_lines (all_lines (next_line r)) in
    let empty = is_empty (line_bytes r.bytes) in
    let none : (bs : List ℕ) → is_empty bs ≡ true → option_to_list (symbol_of bs) ≡ [] = λ bs. elim bs as (λ v. is_empty v ≡ true → option_to_list (symbol_of v) ≡ []) [
      | [] ↦ λ _. refl
      | (b ∷ bs) ↦ λ h. cc
    ] in
    let step : (e : Bool) → empty ≡ e → symbol_demands kind sizes t.names (cond e later (r ∷ later)) ≡ cond e [] (demand r.at (kind Symbol) (is_right t.sizes t.names (symbol_on r)) ∷ []) ++ symbol_demands kind sizes (t.names ++ option_to_list (symbol_on r)) later = λ e. elim e as (λ v. empty ≡ v → symbol_demands kind sizes t.names (cond v later (r ∷ later)) ≡ cond v [] (demand r.at (kind Symbol) (is_right t.sizes t.names (symbol_on r)) ∷ []) ++ symbol_demands kind sizes (t.names ++ option_to_list (symbol_on r)) later) [
      | true ↦ λ h. ap (λ ns. symbol_demands kind sizes ns later) (sym (append-nil t.names) ∙ ap (λ ns. t.names ++ ns) (sym (none (line_bytes r.bytes) h)))
      | false ↦ λ h. ap (λ (s : Sizes). demand r.at (kind Symbol) (is_right s t.names (symbol_on r)) ∷ symbol_demands kind sizes (t.names ++ option_to_list (symbol_on r)) later) (sym is)
    ] in
    ap (symbol_demands kind sizes t.names) (symbol_lines-next r more) ∙ step empty refl

pub symbols-names : (r : Rest) → begins_comment (line_bytes r.bytes) ≡ false → symbols_of (symbol_lines (all_lines r)) ≡ option_to_list (symbol_on r) ++ symbols_of (symbol_lines (all_lines (next_line r)))
symbols-names r more =
    let later = symbol_lines (all_lines (next_line r)) in
    let empty = is_empty (line_bytes r.bytes) in
    let none : (bs : List ℕ) → is_empty bs ≡ true → option_to_list (symbol_of bs) ≡ [] = λ bs. elim bs as (λ v. is_empty v ≡ true → option_to_list (symbol_of v) ≡ []) [
      | [] ↦ λ _. refl
      | (b ∷ bs) ↦ λ h. cc
    ] in
    let front : (o : Option Named) → symbol_on r ≡ o → symbols_of (r ∷ later) ≡ option_to_list o ++ symbols_of later = λ o. elim o as (λ v. symbol_on r ≡ v → symbols_of (r ∷ later) ≡ option_to_list v ++ symbols_of later) [
      | None ↦ λ h. rw h
      | Some x ↦ λ h. rw h
    ] in
    let step : (e : Bool) → empty ≡ e → symbols_of (cond e later (r ∷ later)) ≡ option_to_list (symbol_on r) ++ symbols_of later = λ e. elim e as (λ v. empty ≡ v → symbols_of (cond v later (r ∷ later)) ≡ option_to_list (symbol_on r) ++ symbols_of later) [
      | true ↦ λ h. ap (λ ns. ns ++ symbols_of later) (sym (none (line_bytes r.bytes) h))
      | false ↦ λ h. front (symbol_on r) refl
    ] in
    ap symbols_of (symbol_lines-next r more) ∙ step empty refl

pub symbols-fail : {K : Type 0} (kind : SharedKind → K) (e : Fault K) (t : Table) (sizes : Sizes) (r : Rest) (o : Unmet K) → t.sizes ≡ sizes → begins_comment (line_bytes r.bytes) ≡ false → first_unmet (symbol_demands kind sizes t.names (symbol_lines (all_lines r))) ≡ o
    → Fails e (first_unmet (symbol_line_demands kind t r)) → Fails e o
symbols-fail {K} kind e t sizes r o is more all f =
    subst (λ (x : Unmet K). Fails e x) (sym (ap first_unmet (symbols-step kind t sizes r is more)) ∙ all) (fails-front e (symbol_line_demands kind t r) (symbol_demands kind sizes (t.names ++ option_to_list (symbol_on r)) (symbol_lines (all_lines (next_line r)))) f)

pub symbols-go : {K : Type 0} (kind : SharedKind → K) (t new : Table) (sizes : Sizes) (r s : Rest) (o : Unmet K) → t.sizes ≡ sizes → begins_comment (line_bytes r.bytes) ≡ false → first_unmet (symbol_demands kind sizes t.names (symbol_lines (all_lines r))) ≡ o
    → first_unmet (symbol_line_demands kind t r) ≡ None → new.names ≡ t.names ++ option_to_list (symbol_on r) → s ≡ next_line r → first_unmet (symbol_demands kind sizes new.names (symbol_lines (all_lines s))) ≡ o
symbols-go kind t new sizes r s o is more all met names next =
    ap (λ x. first_unmet (symbol_demands kind sizes new.names (symbol_lines (all_lines x)))) next
    ∙ ap (λ ns. first_unmet (symbol_demands kind sizes ns (symbol_lines (all_lines (next_line r))))) names
    ∙ sym (first_unmet-behind (symbol_line_demands kind t r) _ met)
    ∙ sym (ap first_unmet (symbols-step kind t sizes r is more)) ∙ all

pub names-go : (t new : Table) (r s : Rest) (all : List Named) → begins_comment (line_bytes r.bytes) ≡ false → t.names ++ symbols_of (symbol_lines (all_lines r)) ≡ all
    → new.names ≡ t.names ++ option_to_list (symbol_on r) → s ≡ next_line r → new.names ++ symbols_of (symbol_lines (all_lines s)) ≡ all
names-go t new r s all more is names next =
    ap (λ x. new.names ++ symbols_of (symbol_lines (all_lines x))) next
    ∙ ap (λ ns. ns ++ symbols_of (symbol_lines (all_lines (next_line r)))) names
    ∙ append_assoc t.names (option_to_list (symbol_on r)) (symbols_of (symbol_lines (all_lines (next_line r))))
    ∙ ap (λ ns. t.names ++ ns) (sym (symbols-names r more)) ∙ is

-- the next line is shorter
pub line_after-shorter : (at : ℕ) (bs : List ℕ) → 0 < length bs → length (line_after at bs).bytes < length bs
line_after-shorter at [] h = absurd (omega arith)
line_after-shorter at (b ∷ []) h =
    let step : (t : Bool) → length (cond t (record { at = at + 1; bytes = [] }) (line_after (at + 1) [])).bytes < length (b ∷ []) = λ t. elim t as (λ v. length (cond v (record { at = at + 1; bytes = [] }) (line_after (at + 1) [])).bytes < length (b ∷ [])) [
      | true ↦ omega arith
      | false ↦ omega arith
    ] in
    step (eqb b 10)
line_after-shorter at (b ∷ d ∷ bs) h =
    let rest = line_after-shorter (at + 1) (d ∷ bs) (omega arith) in
    let step : (t : Bool) → length (cond t (record { at = at + 1; bytes = d ∷ bs }) (line_after (at + 1) (d ∷ bs))).bytes < length (b ∷ d ∷ bs) = λ t. elim t as (λ v. length (cond v (record { at = at + 1; bytes = d ∷ bs }) (line_after (at + 1) (d ∷ bs))).bytes < length (b ∷ d ∷ bs)) [
      | true ↦ omega arith
      | false ↦ omega (arith, rest)
    ] in
    step (eqb b 10)
