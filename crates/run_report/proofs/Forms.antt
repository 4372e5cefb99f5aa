-- A report of a run has the form of its text.
use Rattle.std.proofs.Common.{◌≡◌, ◌≢◌, ℕ, zero, suc, ◌+◌, ◌*◌, ◌<◌, ◌≤◌, ◌^◌, Bool, List, [], ◌∷◌, map, length, get_or, refl, sym, ap, subst, ◌∙◌, arith, lit<, All, Option, Some, None, inl, inr}
use Rattle.std.specs.Prelude.{slice_get, AllPairs, IfSome, IsSome}
use Rattle.std.specs.List.{AllByRecursion}
use Rattle.std.specs.List.Sorted.{IsStrictlyIncreasing}
use Rattle.std.proofs.lemmas.Bool.{cases_eq, false≢true}
use Rattle.std.proofs.lemmas.List.{length-map, get_or-map}
use Rattle.std.proofs.lemmas.List.Elements.{recursion_from_All}
use Rattle.std.proofs.lemmas.List.Kept.{AllPairs-from_increasing}
use Rattle.std.proofs.lemmas.Nat.{mul-le}
use Rattle.std.proofs.lemmas.Option.{slice_get-get_or}
use Rattle.std.proofs.Math.Nat.{pow-le-pow_right}
use Rattle.aig_model.specs.Literal.{value_of}
use Rattle.aig_model.specs.Meaning.{Assignment, input_values}
use Rattle.aig_model.specs.Replays.{Shows}
use Rattle.aig_model.specs.declared.parts.Parts.{Parts}
use Rattle.aig_model.specs.declared.trace.Trace.{Trace}
use Rattle.sim_walk.specs.declared.options.Options.{Options}
use Rattle.sim_walk.proofs.Full.{distinct_below}
use Rattle.board_core.specs.declared.entry.Entry.{Entry}
use Rattle.board_core.specs.declared.entry.Source.{Source}
use Rattle.board_core.specs.declared.entry.Source.TheVariants as sources
use Rattle.board_core.specs.History.{IsInRange, IsLegalEntry, IsLegalHistory, first_entry}
use Rattle.report_text.specs.Form.{FitsSource, FitsEntry, FitsTrace, FitsBlocked}
use Rattle.run_report.specs.Bounds.{whole_up_to}
use Rattle.run_report.specs.Posts.{HasEntry}
use Rattle.run_report.specs.Queries.{AreLeftOut}
use Rattle.run_report.specs.Ranges.{AreInRange}
use Rattle.run_report.proofs.History.{entry_here, entry_later}

pub few_goals : (sig : List ℕ) → length sig ≤ 10 → 2 ^ length sig ≤ 1024
few_goals sig h = pow-le-pow_right {n = 2} (lit< tt) h

-- ---- the history
-- one number for a goal and one of eight callers
pair_of : Entry → ℕ
pair_of e = e.goal * 8 + e.caller

pairs_distinct : (o : Options) (goals : ℕ) (es : List Entry) → IsLegalHistory o goals es → AllPairs (λ m n. m ≢ n) (map pair_of es)
unfolding pair_of
pairs_distinct o goals [] legal = λ i j d l m. omega (arith, m)
pairs_distinct o goals (x ∷ xs) legal = λ i j d l m same. (
    let inside : j < length (x ∷ xs) = omega (arith, m, length-map (x ∷ xs) pair_of) in
    let before : i < length (x ∷ xs) = omega (arith, l, inside) in
    let e = get_or (x ∷ xs) i x in
    let f = get_or (x ∷ xs) j x in
    let pair_e : get_or (map pair_of (x ∷ xs)) i d ≡ e.goal * 8 + e.caller = get_or-map pair_of (x ∷ xs) i x d before in
    let pair_f : get_or (map pair_of (x ∷ xs)) j d ≡ f.goal * 8 + f.caller = get_or-map pair_of (x ∷ xs) j x d inside in
    let legal_e = legal.entries i e (slice_get-get_or (x ∷ xs) i x before) in
    let legal_f = legal.entries j f (slice_get-get_or (x ∷ xs) j x inside) in
    elim (legal.once i j x l inside) [
      | inl other ↦ other (omega (arith, pair_e, pair_f, same, legal_e.caller, legal_f.caller))
      | inr other ↦ other (omega (arith, pair_e, pair_f, same, legal_e.caller, legal_f.caller))
    ]
    )

pairs_below : (o : Options) (goals : ℕ) (es : List Entry) → IsLegalHistory o goals es → goals ≤ 1024 → All (λ n. n < 8192) (map pair_of es)
unfolding pair_of
pairs_below o goals [] legal few = λ k d l. omega (arith, l)
pairs_below o goals (x ∷ xs) legal few = λ k d l. (
    let inside : k < length (x ∷ xs) = omega (arith, l, length-map (x ∷ xs) pair_of) in
    let e = get_or (x ∷ xs) k x in
    let pair_e : get_or (map pair_of (x ∷ xs)) k d ≡ e.goal * 8 + e.caller = get_or-map pair_of (x ∷ xs) k x d inside in
    let legal_e = legal.entries k e (slice_get-get_or (x ∷ xs) k x inside) in
    omega (arith, pair_e, legal_e.caller, legal_e.goal, few)
    )

pub few_entries : (o : Options) (goals : ℕ) (es : List Entry) → IsLegalHistory o goals es → goals ≤ 1024 → length es ≤ 8192
few_entries o goals es legal few = omega (arith, distinct_below (map pair_of es) 8192 (pairs_distinct o goals es legal) (pairs_below o goals es legal few), length-map es pair_of)

few_rounds : (o : Options) → AreInRange o → o.batches * o.rounds ≤ 256
few_rounds o ranges = mul-le o.batches o.rounds 16 16 ranges.batches ranges.rounds

source_fits : (o : Options) (s : Source) → AreInRange o → IsInRange o s → FitsSource s
source_fits o sources.Zero ranges h = tt
source_fits o (sources.Walk b) ranges h = omega (arith, h, ranges.batches)
source_fits o sources.Sweep ranges h = tt
source_fits o (sources.Hop b) ranges h = omega (arith, h, ranges.batches)
source_fits o (sources.Again r) ranges h = omega (arith, h, few_rounds o ranges)
source_fits o sources.Proved ranges h = tt

pub entry_fits : (o : Options) (goals k : ℕ) (e : Entry) → AreInRange o → goals ≤ 1024 → k < 2 ^ 64 → IsLegalEntry o goals k e → FitsEntry e
entry_fits o goals k e ranges few inside legal = record {
  number = omega (arith, legal.number, inside);
  caller = omega (arith, legal.caller);
  goal = omega (arith, legal.goal, few);
  source = source_fits o e.source ranges legal.source;
  low = omega (arith, legal.number, legal.low, inside);
}

-- ---- goals
pub rows_wide : (c : Parts) (frames : List Assignment) → AllByRecursion (λ row. length row ≡ length c.inputs) (map (input_values c) frames)
rows_wide c [] = tt
rows_wide c (a ∷ frames) = (length-map c.inputs (value_of a), rows_wide c frames)

pub trace_fits : (c : Parts) (sig : List ℕ) (t : Trace) (g : ℕ) → Shows c sig t g → FitsTrace (length c.inputs) (length c.latches) t
trace_fits c sig t g shows = record {
  start_wide = shows.reset.size;
  width_is = shows.width;
  rows_wide = subst (λ (rows : List (List Bool)). AllByRecursion (λ row. length row ≡ length c.inputs) rows) shows.rows (rows_wide c shows.frames);
  some = omega (arith, shows.run.some, length-map shows.frames (input_values c), ap length shows.rows);
}

-- a first entry is one of the entries
pub first_place : (es : List Entry) (g : ℕ) (e : Entry) → first_entry es g ≡ Some e → (k : ℕ) × (slice_get es k ≡ Some e)
first_place [] g e h = absurd cc
first_place (x ∷ es) g e h = elim (cases_eq x.goal g) [
  | inl same ↦ (0, sym (entry_here x es g same) ∙ h)
  | inr other ↦ (
      let rest = first_place es g e (sym (entry_later x es g other) ∙ h) in
      (suc rest.0, rest.1)
      )
]

first_goal : (es : List Entry) (g : ℕ) (e : Entry) → first_entry es g ≡ Some e → e.goal ≡ g
first_goal [] g e h = absurd cc
first_goal (x ∷ es) g e h = elim (cases_eq x.goal g) [
  | inl same ↦ (
      let one : ◌≡◌ {A = Option Entry} (Some x) (Some e) = sym (entry_here x es g same) ∙ h in
      let is : x ≡ e = cc in
      sym (ap (λ (y : Entry). y.goal) is) ∙ same
      )
  | inr other ↦ first_goal es g e (sym (entry_later x es g other) ∙ h)
]

pub whole_fits : (asked : ℕ) (spent : Option ℕ) → asked < 2 ^ 32 → IfSome spent (λ t. t ≤ asked) → IfSome (whole_up_to asked spent) (λ d. d < 2 ^ 32)
whole_fits asked None few near = few
whole_fits asked (Some zero) few near = tt
whole_fits asked (Some (suc t)) few near = omega (arith, few, near)

-- ---- spent queries
below_of : (o : Options) (goals : ℕ) (es : List Entry) (g : ℕ) (first : Option Entry) → IsLegalHistory o goals es → first_entry es g ≡ first → IsSome first → g < goals
below_of o goals es g None legal e some = absurd (false≢true some)
below_of o goals es g (Some x) legal e some =
    let place = first_place es g x e in
    let entry = legal.entries place.0 x place.1 in
    omega (arith, entry.goal, first_goal es g x e)

goal_below : (o : Options) (goals : ℕ) (es : List Entry) (g : ℕ) → IsLegalHistory o goals es → HasEntry es g → g < goals
goal_below o goals es g legal some = below_of o goals es g (first_entry es g) legal refl some

increasing_distinct : (gs : List ℕ) → IsStrictlyIncreasing gs → AllPairs (λ m n. m ≢ n) gs
increasing_distinct gs rising = λ i j d l m same. (let less = AllPairs-from_increasing gs rising i j d l m in omega (arith, less, same))

pub blocked_fits : (o : Options) (goals : ℕ) (es : List Entry) (gs : List ℕ) → IsLegalHistory o goals es → goals ≤ 1024 → AreLeftOut es gs → FitsBlocked gs
blocked_fits o goals es gs legal few out =
    let below : All (λ g. g < goals) gs = λ k d l. goal_below o goals es (get_or gs k d) legal (out.settled k d l) in
    record {
      count = omega (arith, few, distinct_below gs goals (increasing_distinct gs out.rising) below);
      each = recursion_from_All (λ g. g < 2 ^ 32) gs (λ k d l. omega (arith, few, below k d l));
      rising = out.rising;
    }
