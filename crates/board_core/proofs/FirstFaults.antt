-- A history has one first fault, or none exactly where it is legal.
use Rattle.std.proofs.Common.{◌≡◌, ◌*◌, eq-eqb, ne_eqb, take-append-drop, drop, ◌≢◌, ◌⊎◌, ℕ, suc, ◌+◌, ◌<◌, ◌≤◌, Bool, true, false, cond, nat_eq, List, [], ◌∷◌, ◌++◌, length, take, get_or, refl, sym, ap, subst, ◌∙◌, arith, Some, None, inl, inr, Option, option_map, Contains, eqb-true}
use Rattle.std.specs.Prelude.{slice_get}
use Rattle.std.proofs.lemmas.Bool.{cases_eq, cases_lt}
use Rattle.std.proofs.lemmas.Option.{same_Some, none-some, slice_get_within, slice_get-get_or, get_or_from_slice_get}
use Rattle.std.proofs.lemmas.List.{length-take-le, get_or-take, take_more, take-take}
use Rattle.aig_model.specs.declared.parts.Kind.{Kind}
use Rattle.aig_model.specs.declared.parts.Kind.TheVariants.{Reached, Unreachable}
use Rattle.sim_walk.specs.declared.options.Options.{Options}
use Rattle.board_core.specs.declared.entry.Entry.{Entry}
use Rattle.board_core.specs.declared.entry.Source.{Source}
use Rattle.board_core.specs.declared.entry.Source.TheVariants.{Zero, Walk, Sweep, Hop, Again, Proved}
use Rattle.board_core.specs.declared.fault.HistoryKind.{HistoryKind}
use Rattle.board_core.specs.declared.fault.HistoryKind.TheVariants as kinds
use Rattle.board_core.specs.History.{IsInRange, kind_of, IsLegalEntry, IsLegalHistory, first_entry, verdict_of}
use Rattle.board_core.specs.Faults.{HasPosted, Disagrees, HasFault, order, IsFirstFault, IsFaultless, IsFaultAt}

-- ---- kinds and sources
-- two kinds are equal or not
same_kind : (a b : Kind) → (a ≢ b → ⊥) → a ≡ b
same_kind Reached Reached h = refl
same_kind Reached Unreachable h = absurd (h (λ e. cc))
same_kind Unreachable Reached h = absurd (h (λ e. cc))
same_kind Unreachable Unreachable h = refl

kind_cases : (a b : Kind) → (a ≡ b) ⊎ (a ≢ b)
kind_cases Reached Reached = inl refl
kind_cases Reached Unreachable = inr (λ e. cc)
kind_cases Unreachable Reached = inr (λ e. cc)
kind_cases Unreachable Unreachable = inl refl

less_cases : (a b : ℕ) → (a < b) ⊎ (a < b → ⊥)
less_cases a b = elim (cases_lt a b) [ inl l ↦ inl l | inr g ↦ inr (λ l. omega arith) ]

range_cases : (o : Options) (s : Source) → IsInRange o s ⊎ (IsInRange o s → ⊥)
range_cases o Zero = inl tt
range_cases o (Walk b) = less_cases b o.batches
range_cases o Sweep = inl tt
range_cases o (Hop b) = less_cases b o.batches
range_cases o (Again r) = less_cases r (o.batches * o.rounds)
range_cases o Proved = inl tt

source_stands : (o : Options) (e : Entry) → ((IsInRange o e.source × (e.kind ≡ kind_of e.source) → ⊥) → ⊥) → IsInRange o e.source × (e.kind ≡ kind_of e.source)
source_stands o e h =
    elim (range_cases o e.source) [
      | inl range ↦ elim (kind_cases e.kind (kind_of e.source)) [ inl kind ↦ (range, kind) | inr other ↦ absurd (h (λ both. other both.1)) ]
      | inr out ↦ absurd (h (λ both. out both.0))
    ]

-- ---- verdicts
keep : (b : Bool) (x : Entry) (m n : Option Entry) (kind : Kind)
    → (option_map (λ (e : Entry). e.kind) m ≡ Some kind → option_map (λ (e : Entry). e.kind) n ≡ Some kind)
    → option_map (λ (e : Entry). e.kind) (cond b (Some x) m) ≡ Some kind → option_map (λ (e : Entry). e.kind) (cond b (Some x) n) ≡ Some kind
keep true x m n kind h is = is
keep false x m n kind h is = h is

-- a goal keeps its first kind
pub verdict_keeps : (xs ys : List Entry) (g : ℕ) (kind : Kind) → verdict_of xs g ≡ Some kind → verdict_of (xs ++ ys) g ≡ Some kind
verdict_keeps [] ys g kind is = absurd cc
verdict_keeps (x ∷ xs) ys g kind is =
    keep (nat_eq x.goal g) x (first_entry xs g) (first_entry (xs ++ ys) g) kind (verdict_keeps xs ys g kind) is

-- the first entry of a goal gives its kind
first_here : (b : Bool) (x : Entry) (m n : Option Entry) (kind : Kind)
    → (option_map (λ (e : Entry). e.kind) m ≡ None → option_map (λ (e : Entry). e.kind) n ≡ Some kind)
    → option_map (λ (e : Entry). e.kind) (cond b (Some x) m) ≡ None → option_map (λ (e : Entry). e.kind) (cond b (Some x) n) ≡ Some kind
first_here true x m n kind h is = absurd cc
first_here false x m n kind h is = h is

pub verdict_first : (xs : List Entry) (e : Entry) (g : ℕ) → e.goal ≡ g → verdict_of xs g ≡ None → verdict_of (xs ++ e ∷ []) g ≡ Some e.kind
verdict_first [] e g same is = ap (λ (b : Bool). option_map (λ (x : Entry). x.kind) (cond b (Some e) None)) (eq-eqb e.goal g same)
verdict_first (x ∷ xs) e g same is =
    first_here (nat_eq x.goal g) x (first_entry xs g) (first_entry (xs ++ e ∷ []) g) e.kind (verdict_first xs e g same) is

-- an entry of another goal changes nothing
other_here : (b : Bool) (x : Entry) (m n : Option Entry) → option_map (λ (e : Entry). e.kind) n ≡ option_map (λ (e : Entry). e.kind) m
    → option_map (λ (e : Entry). e.kind) (cond b (Some x) n) ≡ option_map (λ (e : Entry). e.kind) (cond b (Some x) m)
other_here true x m n h = refl
other_here false x m n h = h

pub verdict_other : (xs : List Entry) (e : Entry) (g : ℕ) → e.goal ≢ g → verdict_of (xs ++ e ∷ []) g ≡ verdict_of xs g
verdict_other [] e g differs = ap (λ (b : Bool). option_map (λ (x : Entry). x.kind) (cond b (Some e) None)) (ne_eqb e.goal g differs)
verdict_other (x ∷ xs) e g differs =
    other_here (nat_eq x.goal g) x (first_entry xs g) (first_entry (xs ++ e ∷ []) g) (verdict_other xs e g differs)

-- an entry of the goal with this kind
abbrev HasKind : List Entry → ℕ → Kind → Type 0
HasKind xs g kind = (f : Entry) × Contains xs f × (f.goal ≡ g) × (f.kind ≡ kind)

has_more : (x : Entry) (xs : List Entry) (g : ℕ) (kind : Kind) → HasKind xs g kind → HasKind (x ∷ xs) g kind
has_more x xs g kind h = (h.0, (suc h.1.0, omega (arith, h.1.1), h.1.2), h.2, h.3)

found_here : (b : Bool) (x : Entry) (xs : List Entry) (m : Option Entry) (g : ℕ) (kind : Kind) → nat_eq x.goal g ≡ b
    → (option_map (λ (e : Entry). e.kind) m ≡ Some kind → HasKind xs g kind) → option_map (λ (e : Entry). e.kind) (cond b (Some x) m) ≡ Some kind → HasKind (x ∷ xs) g kind
found_here true x xs m g kind goal h is = (x, (0, omega arith, refl), eqb-true x.goal g goal, same_Some x.kind kind is)
found_here false x xs m g kind goal h is = has_more x xs g kind (h is)

pub verdict_found : (xs : List Entry) (g : ℕ) (kind : Kind) → verdict_of xs g ≡ Some kind → HasKind xs g kind
verdict_found [] g kind is = absurd cc
verdict_found (x ∷ xs) g kind is = found_here (nat_eq x.goal g) x xs (first_entry xs g) g kind refl (verdict_found xs g kind) is

disagrees_at : (v : Option Kind) (kind : Kind) → Disagrees v kind → (first : Kind) × (v ≡ Some first) × (first ≢ kind)
disagrees_at None kind h = absurd h
disagrees_at (Some first) kind h = (first, refl, h)

-- a goal that stands with an entry's kind, or not yet
agrees_at : (v : Option Kind) (kind : Kind) → (Disagrees v kind → ⊥) → (v ≡ None) ⊎ (v ≡ Some kind)
agrees_at None kind h = inl refl
agrees_at (Some first) kind h = inr (ap (λ (k : Kind). Some k) (same_kind first kind h))

-- ---- entries before a place
-- the entries before a place have the entry at an earlier one
contains_before : (es : List Entry) (i k : ℕ) (d : Entry) → i < k → k < length es → Contains (take k es) (get_or es i d)
contains_before es i k d l inside = (i, omega (arith, length-take-le k es (omega arith)), get_or-take k es i (get_or es i d) l ∙ get_or_from_slice_get es i (get_or es i d) (get_or es i d) (slice_get-get_or es i d (omega arith)))

abbrev pub Faultless : Options → ℕ → List Entry → Type 0
Faultless o goals es = (k : ℕ) (e : Entry) → slice_get es k ≡ Some e → IsFaultless o goals (take k es) e

-- once an entry without a fault stands, its goal has its kind
stands_after : (o : Options) (goals : ℕ) (es : List Entry) (i : ℕ) (e : Entry) → slice_get es i ≡ Some e → IsFaultless o goals (take i es) e → verdict_of (take (i + 1) es) e.goal ≡ Some e.kind
stands_after o goals es i e at h =
    let more : take (i + 1) es ≡ take i es ++ e ∷ [] = take_more es i e (slice_get_within es i e at) ∙ ap (λ (x : Entry). take i es ++ x ∷ []) (get_or_from_slice_get es i e e at) in
    ap (λ (xs : List Entry). verdict_of xs e.goal) more
    ∙ (elim (agrees_at (verdict_of (take i es) e.goal) e.kind (h kinds.Kind)) [
      | inl none ↦ verdict_first (take i es) e e.goal refl none
      | inr some ↦ verdict_keeps (take i es) (e ∷ []) e.goal e.kind some
    ])

stands_later : (o : Options) (goals : ℕ) (es : List Entry) (i k : ℕ) (e : Entry) → slice_get es i ≡ Some e → i < k → IsFaultless o goals (take i es) e → verdict_of (take k es) e.goal ≡ Some e.kind
stands_later o goals es i k e at l h =
    let front : take (i + 1) (take k es) ++ drop (i + 1) (take k es) ≡ take k es = take-append-drop (i + 1) (take k es) in
    let same : take (i + 1) (take k es) ≡ take (i + 1) es = take-take (i + 1) k es (omega arith) in
    let whole : take (i + 1) es ++ drop (i + 1) (take k es) ≡ take k es = ap (λ (xs : List Entry). xs ++ drop (i + 1) (take k es)) (sym same) ∙ front in
    subst (λ (xs : List Entry). verdict_of xs e.goal ≡ Some e.kind) whole
    (verdict_keeps (take (i + 1) es) (drop (i + 1) (take k es)) e.goal e.kind (stands_after o goals es i e at h))

-- ---- legal exactly where no entry has a fault
not_posted : (o : Options) (goals : ℕ) (es : List Entry) (k : ℕ) (e : Entry) → IsLegalHistory o goals es → slice_get es k ≡ Some e → HasPosted (take k es) e.caller e.goal → ⊥
not_posted o goals es k e legal at posted =
    let f : Entry = posted.0 in
    let inside : k < length es = slice_get_within es k e at in
    let i : ℕ = posted.1.0 in
    let earlier : i < k = omega (arith, posted.1.1, length-take-le k es (omega arith)) in
    let here_f : get_or es i f ≡ f = sym (get_or-take k es i f earlier) ∙ posted.1.2 in
    let here_e : get_or es k f ≡ e = get_or_from_slice_get es k e f at in
    let apart = legal.once i k f earlier inside in
    elim apart [
      | inl callers ↦ callers (ap (λ (x : Entry). x.caller) here_f ∙ posted.2 ∙ sym (ap (λ (x : Entry). x.caller) here_e))
      | inr others ↦ others (ap (λ (x : Entry). x.goal) here_f ∙ posted.3 ∙ sym (ap (λ (x : Entry). x.goal) here_e))
    ]

not_disagreeing : (o : Options) (goals : ℕ) (es : List Entry) (k : ℕ) (e : Entry) → IsLegalHistory o goals es → slice_get es k ≡ Some e → Disagrees (verdict_of (take k es) e.goal) e.kind → ⊥
not_disagreeing o goals es k e legal at h =
    let d = disagrees_at (verdict_of (take k es) e.goal) e.kind h in
    let found = verdict_found (take k es) e.goal d.0 d.1 in
    let f : Entry = found.0 in
    let inside : k < length es = slice_get_within es k e at in
    let i : ℕ = found.1.0 in
    let earlier : i < k = omega (arith, found.1.1, length-take-le k es (omega arith)) in
    let here_f : get_or es i f ≡ f = sym (get_or-take k es i f earlier) ∙ found.1.2 in
    let here_e : get_or es k f ≡ e = get_or_from_slice_get es k e f at in
    let goals_agree : (get_or es i f).goal ≡ (get_or es k f).goal = ap (λ (x : Entry). x.goal) here_f ∙ found.2 ∙ sym (ap (λ (x : Entry). x.goal) here_e) in
    let kinds_agree = legal.kinds i k f earlier inside goals_agree in
    d.2 (sym found.3 ∙ sym (ap (λ (x : Entry). x.kind) here_f) ∙ kinds_agree ∙ ap (λ (x : Entry). x.kind) here_e)

legal-faultless : (o : Options) (goals : ℕ) (es : List Entry) → IsLegalHistory o goals es → (k : ℕ) (e : Entry) → slice_get es k ≡ Some e → (kind : HistoryKind) → HasFault o goals (take k es) e kind → ⊥
legal-faultless o goals es legal k e at kinds.Number h = h ((legal.entries k e at).number ∙ sym (length-take-le k es (let l = slice_get_within es k e at in omega arith)))
legal-faultless o goals es legal k e at kinds.Caller h = omega (arith, (legal.entries k e at).caller, h)
legal-faultless o goals es legal k e at kinds.Goal h = omega (arith, (legal.entries k e at).goal, h)
legal-faultless o goals es legal k e at kinds.Low h = omega (arith, (legal.entries k e at).low, h)
legal-faultless o goals es legal k e at kinds.Source h = h ((legal.entries k e at).source, (legal.entries k e at).kind)
legal-faultless o goals es legal k e at kinds.Twice h = not_posted o goals es k e legal at h
legal-faultless o goals es legal k e at kinds.Kind h = not_disagreeing o goals es k e legal at h

pub faultless_of_legal : (o : Options) (goals : ℕ) (es : List Entry) → IsLegalHistory o goals es → Faultless o goals es
faultless_of_legal o goals es legal = λ k e at kind h. legal-faultless o goals es legal k e at kind h

same_number : (a b : ℕ) → (a ≢ b → ⊥) → a ≡ b
same_number a b h = elim (cases_eq a b) [ inl same ↦ same | inr other ↦ absurd (h other) ]

pub below : (a b : ℕ) → (b ≤ a → ⊥) → a < b
below a b h = elim (cases_lt a b) [ inl l ↦ l | inr g ↦ absurd (h g) ]

legal_entry : (o : Options) (goals : ℕ) (es : List Entry) (k : ℕ) (e : Entry) → slice_get es k ≡ Some e → IsFaultless o goals (take k es) e → IsLegalEntry o goals k e
legal_entry o goals es k e at h =
    let source = source_stands o e (h kinds.Source) in
    record {
      number = same_number e.number (length (take k es)) (h kinds.Number) ∙ length-take-le k es (let l = slice_get_within es k e at in omega arith);
      caller = below e.caller 8 (h kinds.Caller);
      goal = below e.goal goals (h kinds.Goal);
      low = elim (cases_lt e.number e.low) [ inl l ↦ absurd (h kinds.Low l) | inr g ↦ g ];
      source = source.0;
      kind = source.1;
    }

pub legal_of_faultless : (o : Options) (goals : ℕ) (es : List Entry) → Faultless o goals es → IsLegalHistory o goals es
legal_of_faultless o goals es h = record {
  entries = λ k e at. legal_entry o goals es k e at (h k e at);
  once = λ i j d l inside. (
      let e : Entry = get_or es j d in
      let at : slice_get es j ≡ Some e = slice_get-get_or es j d inside in
      elim (cases_eq (get_or es i d).caller e.caller) [
        | inl callers ↦ elim (cases_eq (get_or es i d).goal e.goal) [
          | inl goals_same ↦ absurd (h j e at kinds.Twice (get_or es i d, contains_before es i j d l inside, callers, goals_same))
          | inr other ↦ inr other
        ]
        | inr other ↦ inl other
      ]
      );
  kinds = λ i j d l inside same. (
      let e : Entry = get_or es i d in
      let f : Entry = get_or es j d in
      let at_e : slice_get es i ≡ Some e = slice_get-get_or es i d (omega arith) in
      let at_f : slice_get es j ≡ Some f = slice_get-get_or es j d inside in
      let stands : verdict_of (take j es) f.goal ≡ Some e.kind = ap (λ (g : ℕ). verdict_of (take j es) g) (sym same) ∙ stands_later o goals es i j e at_e l (h i e at_e) in
      elim (agrees_at (verdict_of (take j es) f.goal) f.kind (h j f at_f kinds.Kind)) [
        | inl none ↦ absurd (none-some e.kind (sym none ∙ stands))
        | inr some ↦ same_Some e.kind f.kind (sym stands ∙ some)
      ]
      );
}

-- ---- the first fault
-- the fault of one entry that is tried first is one
order_tells : (a b : HistoryKind) → order a ≡ order b → a ≡ b
order_tells kinds.Number kinds.Number e = refl
order_tells kinds.Number kinds.Caller e = absurd (omega arith)
order_tells kinds.Number kinds.Goal e = absurd (omega arith)
order_tells kinds.Number kinds.Low e = absurd (omega arith)
order_tells kinds.Number kinds.Source e = absurd (omega arith)
order_tells kinds.Number kinds.Twice e = absurd (omega arith)
order_tells kinds.Number kinds.Kind e = absurd (omega arith)
order_tells kinds.Caller kinds.Number e = absurd (omega arith)
order_tells kinds.Caller kinds.Caller e = refl
order_tells kinds.Caller kinds.Goal e = absurd (omega arith)
order_tells kinds.Caller kinds.Low e = absurd (omega arith)
order_tells kinds.Caller kinds.Source e = absurd (omega arith)
order_tells kinds.Caller kinds.Twice e = absurd (omega arith)
order_tells kinds.Caller kinds.Kind e = absurd (omega arith)
order_tells kinds.Goal kinds.Number e = absurd (omega arith)
order_tells kinds.Goal kinds.Caller e = absurd (omega arith)
order_tells kinds.Goal kinds.Goal e = refl
order_tells kinds.Goal kinds.Low e = absurd (omega arith)
order_tells kinds.Goal kinds.Source e = absurd (omega arith)
order_tells kinds.Goal kinds.Twice e = absurd (omega arith)
order_tells kinds.Goal kinds.Kind e = absurd (omega arith)
order_tells kinds.Low kinds.Number e = absurd (omega arith)
order_tells kinds.Low kinds.Caller e = absurd (omega arith)
order_tells kinds.Low kinds.Goal e = absurd (omega arith)
order_tells kinds.Low kinds.Low e = refl
order_tells kinds.Low kinds.Source e = absurd (omega arith)
order_tells kinds.Low kinds.Twice e = absurd (omega arith)
order_tells kinds.Low kinds.Kind e = absurd (omega arith)
order_tells kinds.Source kinds.Number e = absurd (omega arith)
order_tells kinds.Source kinds.Caller e = absurd (omega arith)
order_tells kinds.Source kinds.Goal e = absurd (omega arith)
order_tells kinds.Source kinds.Low e = absurd (omega arith)
order_tells kinds.Source kinds.Source e = refl
order_tells kinds.Source kinds.Twice e = absurd (omega arith)
order_tells kinds.Source kinds.Kind e = absurd (omega arith)
order_tells kinds.Twice kinds.Number e = absurd (omega arith)
order_tells kinds.Twice kinds.Caller e = absurd (omega arith)
order_tells kinds.Twice kinds.Goal e = absurd (omega arith)
order_tells kinds.Twice kinds.Low e = absurd (omega arith)
order_tells kinds.Twice kinds.Source e = absurd (omega arith)
order_tells kinds.Twice kinds.Twice e = refl
order_tells kinds.Twice kinds.Kind e = absurd (omega arith)
order_tells kinds.Kind kinds.Number e = absurd (omega arith)
order_tells kinds.Kind kinds.Caller e = absurd (omega arith)
order_tells kinds.Kind kinds.Goal e = absurd (omega arith)
order_tells kinds.Kind kinds.Low e = absurd (omega arith)
order_tells kinds.Kind kinds.Source e = absurd (omega arith)
order_tells kinds.Kind kinds.Twice e = absurd (omega arith)
order_tells kinds.Kind kinds.Kind e = refl

pub first_fault_unique : (o : Options) (goals : ℕ) (before : List Entry) (e : Entry) (a b : HistoryKind) → IsFirstFault o goals before e a → IsFirstFault o goals before e b → a ≡ b
first_fault_unique o goals before e a b first second =
    elim (cases_lt (order a) (order b)) [
      | inl l ↦ absurd (second.earlier a l first.here)
      | inr g ↦ elim (cases_lt (order b) (order a)) [
        | inl l ↦ absurd (first.earlier b l second.here)
        | inr g' ↦ order_tells a b (omega arith)
      ]
    ]

same_place : (o : Options) (goals : ℕ) (es : List Entry) (i j : ℕ) (a b : HistoryKind) → IsFaultAt o goals es i a → IsFaultAt o goals es j b → i ≡ j
same_place o goals es i j a b first second =
    elim (cases_lt i j) [
      | inl l ↦ absurd (second.before i first.entry l first.place a first.fault.here)
      | inr g ↦ elim (cases_lt j i) [
        | inl l ↦ absurd (first.before j second.entry l second.place b second.fault.here)
        | inr g' ↦ omega arith
      ]
    ]

pub fault_unique : (o : Options) (goals : ℕ) (es : List Entry) (i j : ℕ) (a b : HistoryKind) → IsFaultAt o goals es i a → IsFaultAt o goals es j b → (i ≡ j) × (a ≡ b)
fault_unique o goals es i j a b first second =
    let place : i ≡ j = same_place o goals es i j a b first second in
    let moved : IsFaultAt o goals es j a = subst (λ (k : ℕ). IsFaultAt o goals es k a) place first in
    let entry : moved.entry ≡ second.entry = same_Some moved.entry second.entry (sym moved.place ∙ second.place) in
    (place, first_fault_unique o goals (take j es) second.entry a b (subst (λ (e : Entry). IsFirstFault o goals (take j es) e a) entry moved.fault) second.fault)

pub faultless_has_none : (o : Options) (goals : ℕ) (es : List Entry) (i : ℕ) (a : HistoryKind) → Faultless o goals es → IsFaultAt o goals es i a → ⊥
faultless_has_none o goals es i a h fault = h i fault.entry fault.place a fault.fault.here
