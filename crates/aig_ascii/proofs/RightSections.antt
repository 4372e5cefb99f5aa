-- What sections say whose demands are met.
use Rattle.std.proofs.Common.{◌≡◌, ◌≢◌, ℕ, zero, suc, Bool, true, false, ◌||◌, nat_eq, None, List, [], ◌∷◌, ◌++◌, map, AllPairs, Contains, refl, sym, ap, ◌∙◌, subst, inl, inr, append_assoc, arith, ◌⊎◌}
use Rattle.std.specs.List.{AllByRecursion}
use Rattle.std.proofs.lemmas.Bool.Decides.{nat_tests}
use Rattle.std.proofs.lemmas.List.{map-append, append-nil}
use Rattle.std.proofs.lemmas.List.Elements.{All-from_recursion}
use Rattle.std.proofs.lemmas.List.Kept.{AllPairs-cons}
use Rattle.aig_model.specs.Literal.{var}
use Rattle.aig_model.specs.WellFormed.{IsInRange, IsDefining, left_sides, latch_literals, gate_literals, next_lits, gate_inputs}
use Rattle.aig_model.proofs.Elements.{Contains-head, Contains-later}
use Rattle.text_words.specs.Text.{Rest, number, next_line, lines_of}
use Rattle.aig_ascii.specs.Demands.{demand}
use Rattle.aig_ascii.specs.Fields.{line_demands}
use Rattle.aig_ascii.specs.Sections.{input, latch, plain, gate, number_at, defines, is_known, wants_of, used_by, section_demands, section_uses, use_demands, latch_of, gate_of, lits_of}
use Rattle.aig_ascii.specs.FirstFaults.{first_unmet}
use Rattle.aig_ascii.specs.declared.fault.AagKind.TheVariants.{Undefined}
use Rattle.aig_ascii.proofs.Defined.{defines-append}
use Rattle.aig_ascii.proofs.RightLines.{Defines, right-input, right-latch, right-plain, right-gate}
use Rattle.aig_ascii.specs.Kinds.{aag_kind}
use Rattle.aig_ascii.proofs.FirstFaults.{met-front, met-rest, met-first}

-- ---- literals of which each defines a variable for the first time

abbrev pub Fresh : ℕ → List ℕ → List ℕ → Type 0
Fresh top earlier [] = Unit {0}
Fresh top earlier (lit ∷ lits) = Defines top earlier lit × Fresh top (earlier ++ lit ∷ []) lits

pub fresh-append : (top : ℕ) (e xs ys : List ℕ) → Fresh top e xs → Fresh top (e ++ xs) ys → Fresh top e (xs ++ ys)
fresh-append top e [] ys f g = subst (λ (d : List ℕ). Fresh top d ys) (append-nil e) g
fresh-append top e (x ∷ xs) ys f g = (f.0, fresh-append top (e ++ x ∷ []) xs ys f.1 (subst (λ (d : List ℕ). Fresh top d ys) (sym (append_assoc e (x ∷ []) xs)) g))

pub fresh-range : (top : ℕ) (e xs : List ℕ) → Fresh top e xs → AllByRecursion (IsInRange top) xs
fresh-range top e [] f = tt
fresh-range top e (x ∷ xs) f = (f.0.in_range, fresh-range top (e ++ x ∷ []) xs f.1)

pub fresh-defining : (top : ℕ) (e xs : List ℕ) → Fresh top e xs → AllByRecursion IsDefining xs
fresh-defining top e [] f = tt
fresh-defining top e (x ∷ xs) f = (f.0.defining, fresh-defining top (e ++ x ∷ []) xs f.1)

covers-push : (e : List ℕ) (x v : ℕ) → defines e v ≡ true → defines (e ++ x ∷ []) v ≡ true
covers-push e x v h = defines-append e (x ∷ []) v ∙ ap (λ t. t || defines (x ∷ []) v) h

defines-last : (e : List ℕ) (x : ℕ) → defines (e ++ x ∷ []) (var x) ≡ true
defines-last e x =
    let same : nat_eq (var x) (var x) ≡ true = grind (arith, nat_tests) in
    let step : (a : Bool) → (a || true) ≡ true = λ a. elim a as (λ v. (v || true) ≡ true) [ true ↦ refl | false ↦ refl ] in
    defines-append e (x ∷ []) (var x) ∙ ap (λ t. defines e (var x) || (t || false)) same ∙ step (defines e (var x))

fresh-apart : (top v : ℕ) (e xs : List ℕ) → Fresh top e xs → defines e v ≡ true → AllByRecursion (λ w. v ≢ w) (map var xs)
fresh-apart top v e [] f h = tt
fresh-apart top v e (x ∷ xs) f h =
    let new : defines e (var x) ≡ false = f.0.new in
    ((λ s. let again : defines e (var x) ≡ true = ap (defines e) (sym s) ∙ h in cc), fresh-apart top v (e ++ x ∷ []) xs f.1 (covers-push e x v h))

pub fresh-once : (top : ℕ) (e xs : List ℕ) → Fresh top e xs → AllPairs (λ v w. v ≢ w) (map var xs)
fresh-once top e [] f = λ i j d order within. absurd (omega arith)
fresh-once top e (x ∷ xs) f =
    AllPairs-cons (λ v w. v ≢ w) (var x) (map var xs) (All-from_recursion (λ w. var x ≢ w) (map var xs) (fresh-apart top (var x) (e ++ x ∷ []) xs f.1 (defines-last e x))) (fresh-once top (e ++ x ∷ []) xs f.1)

-- ---- the sections

pub left_sides-lines : (lines : List Rest) → left_sides (map gate_of lines) ≡ map (λ line. number_at line 0) lines
left_sides-lines [] = refl
left_sides-lines (r ∷ rs) = ap (λ ls. number_at r 0 ∷ ls) (left_sides-lines rs)

pub right-inputs : (n top : ℕ) (e : List ℕ) (r : Rest) → first_unmet (section_demands input n top e r) ≡ None → Fresh top e (lits_of n r)
right-inputs zero top e r m = tt
right-inputs (suc n) top e r m =
    let line = line_demands aag_kind (wants_of input top e r) r in
    let more = section_demands input n top (e ++ number_at r 0 ∷ []) (next_line r) in
    (right-input top e r (met-front line more m), right-inputs n top (e ++ number_at r 0 ∷ []) (next_line r) (met-rest line more m))

pub record RightLatches (n top : ℕ) (e : List ℕ) (r : Rest) : Type 0 where
  pub fresh : Fresh top e (lits_of n r)
  pub range : AllByRecursion (IsInRange top) (latch_literals (map latch_of (lines_of n r)))
  pub uses : map number (section_uses latch n r) ≡ next_lits (map latch_of (lines_of n r))

pub right-latches : (n top : ℕ) (e : List ℕ) (r : Rest) → first_unmet (section_demands latch n top e r) ≡ None → RightLatches n top e r
right-latches zero top e r m = record { fresh = tt; range = tt; uses = refl }
right-latches (suc n) top e r m =
    let line = line_demands aag_kind (wants_of latch top e r) r in
    let more = section_demands latch n top (e ++ number_at r 0 ∷ []) (next_line r) in
    let here = right-latch top e r (met-front line more m) in
    let rest = right-latches n top (e ++ number_at r 0 ∷ []) (next_line r) (met-rest line more m) in
    record {
      fresh = (here.lit, rest.fresh);
      range = (here.lit.in_range, (here.next, rest.range));
      uses = map-append number (used_by latch r) (section_uses latch n (next_line r)) ∙ ap (λ xs. xs ++ map number (section_uses latch n (next_line r))) here.uses ∙ ap (λ xs. number_at r 1 ∷ xs) rest.uses;
    }

pub record RightLits (n top : ℕ) (r : Rest) : Type 0 where
  pub range : AllByRecursion (IsInRange top) (lits_of n r)
  pub uses : map number (section_uses plain n r) ≡ lits_of n r

pub right-lits : (n top : ℕ) (e : List ℕ) (r : Rest) → first_unmet (section_demands plain n top e r) ≡ None → RightLits n top r
right-lits zero top e r m = record { range = tt; uses = refl }
right-lits (suc n) top e r m =
    let line = line_demands aag_kind (wants_of plain top e r) r in
    let more = section_demands plain n top (e ++ []) (next_line r) in
    let here = right-plain top e r (met-front line more m) in
    let rest = right-lits n top (e ++ []) (next_line r) (met-rest line more m) in
    record {
      range = (here.lit, rest.range);
      uses = map-append number (used_by plain r) (section_uses plain n (next_line r)) ∙ ap (λ xs. xs ++ map number (section_uses plain n (next_line r))) here.uses ∙ ap (λ xs. number_at r 0 ∷ xs) rest.uses;
    }

pub record RightGates (n top : ℕ) (e : List ℕ) (r : Rest) : Type 0 where
  pub fresh : Fresh top e (lits_of n r)
  pub range : AllByRecursion (IsInRange top) (gate_literals (map gate_of (lines_of n r)))
  pub uses : map number (section_uses gate n r) ≡ gate_inputs (map gate_of (lines_of n r))

pub right-gates : (n top : ℕ) (e : List ℕ) (r : Rest) → first_unmet (section_demands gate n top e r) ≡ None → RightGates n top e r
right-gates zero top e r m = record { fresh = tt; range = tt; uses = refl }
right-gates (suc n) top e r m =
    let line = line_demands aag_kind (wants_of gate top e r) r in
    let more = section_demands gate n top (e ++ number_at r 0 ∷ []) (next_line r) in
    let here = right-gate top e r (met-front line more m) in
    let rest = right-gates n top (e ++ number_at r 0 ∷ []) (next_line r) (met-rest line more m) in
    record {
      fresh = (here.lhs, rest.fresh);
      range = (here.lhs.in_range, (here.left, (here.right, rest.range)));
      uses = map-append number (used_by gate r) (section_uses gate n (next_line r)) ∙ ap (λ xs. xs ++ map number (section_uses gate n (next_line r))) here.uses ∙ ap (λ xs. number_at r 1 ∷ number_at r 2 ∷ xs) rest.uses;
    }

-- ---- uses

pub right-uses : (lits : List ℕ) (fs : List Rest) → first_unmet (use_demands lits fs) ≡ None → AllByRecursion (λ n. is_known lits n ≡ true) (map number fs)
right-uses lits [] m = tt
right-uses lits (f ∷ fs) m = let both = met-first (demand f.at Undefined (is_known lits (number f))) (use_demands lits fs) m in (both.0, right-uses lits fs both.1)

contains-defined : (lits : List ℕ) (v : ℕ) → defines lits v ≡ true → Contains (map var lits) v
contains-defined [] v e = cc
contains-defined (l ∷ ls) v e =
    let step : (t : Bool) → nat_eq (var l) v ≡ t → (t || defines ls v) ≡ true → Contains (var l ∷ map var ls) v = λ t. elim t as (λ w. nat_eq (var l) v ≡ w → (w || defines ls v) ≡ true → Contains (var l ∷ map var ls) v) [
      | true ↦ λ is h. let same : var l ≡ v = grind (arith, nat_tests, is) in Contains-head (var l) v (map var ls) same
      | false ↦ λ is h. Contains-later (var l) v (map var ls) (contains-defined ls v h)
    ] in
    step (nat_eq (var l) v) refl e

pub known-literal : (lits : List ℕ) (n : ℕ) → is_known lits n ≡ true → (var n ≡ 0) ⊎ Contains (map var lits) (var n)
known-literal lits n e =
    let step : (t : Bool) → nat_eq (var n) 0 ≡ t → (t || defines lits (var n)) ≡ true → (var n ≡ 0) ⊎ Contains (map var lits) (var n) = λ t. elim t as (λ w. nat_eq (var n) 0 ≡ w → (w || defines lits (var n)) ≡ true → (var n ≡ 0) ⊎ Contains (map var lits) (var n)) [
      | true ↦ λ is h. let zero : var n ≡ 0 = grind (arith, nat_tests, is) in inl zero
      | false ↦ λ is h. inr (contains-defined lits (var n) h)
    ] in
    step (nat_eq (var n) 0) refl e
