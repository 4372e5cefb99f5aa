-- A report that meets all conditions shows what it claims of the circuit.
use Rattle.std.proofs.Common.{◌≡◌, ℕ, zero, suc, Bool, eqb-true, ◌^◌, ◌<◌, true, false, List, [], ◌∷◌, length, refl, sym, ap, ◌∙◌, subst, arith, Some, None, Option, slice_get, All, Contains, nat_eq}
use Rattle.std.specs.Prelude.{if◌then◌else◌}
use Rattle.std.specs.List.{AllByRecursion, cons_option}
use Rattle.std.proofs.lemmas.Option.{same_Some, slice_get_within, get_or_from_slice_get}
use Rattle.std.proofs.lemmas.List.Elements.{All-from_recursion, All-contains, All-weaker}
use Rattle.aig_model.specs.WellFormed.{IsCircuit}
use Rattle.aig_model.specs.SignalList.{IsSignals}
use Rattle.aig_model.specs.Meaning.{At}
use Rattle.aig_model.specs.declared.parts.Parts.{Parts}
use Rattle.cnf_base.specs.Meaning.{CnfFormula}
use Rattle.lrat_text.specs.declared.proof.LratStep.{LratStep}
use Rattle.lrat_text.specs.Accepted.{Accepted}
use Rattle.lrat_text.specs.Text.{IsWritable}
use Rattle.lrat_check.proofs.Refutation.{accepted_refutes}
use Rattle.unroll.specs.declared.start.Start.{Start}
use Rattle.unroll.specs.declared.start.Start.TheVariants.{Reset, State}
use Rattle.unroll.specs.Starts.{IsStart, Allows}
use Rattle.unroll.specs.Queries.{search_formula}
use Rattle.unroll.proofs.SearchMeaning.{none_is_new_lem}
use Rattle.inv_cert.specs.KeptSets.{IsKeptSet}
use Rattle.inv_cert.proofs.Invariance.{is_invariant, bars}
use Rattle.report_text.specs.declared.report.HopBound.{HopBound}
use Rattle.report_text.specs.declared.report.HopBound.TheVariants as hop_bounds
use Rattle.report_text.specs.declared.report.SeedLine.{SeedLine}
use Rattle.report_text.specs.declared.report.Inv.{Inv}
use Rattle.report_text.specs.declared.report.GoalBlock.TheVariants as blocks
use Rattle.report_text.specs.declared.report.BlockName.{BlockName}
use Rattle.report_text.specs.declared.report.BlockName.TheVariants as names
use Rattle.report_text.specs.declared.report.Block.{Block}
use Rattle.report_text.specs.declared.report.Report.{Report}
use Rattle.report_text.specs.Form.{HasForm, FitsInv, FitsProof, FitsSeed}
use Rattle.report_check.specs.declared.fault.Part.TheVariants as parts
use Rattle.report_check.specs.declared.fault.CheckKind.TheVariants as kinds
use Rattle.report_check.specs.Blocks.{IsSettled, HasOpen}
use Rattle.report_check.specs.Bounds.{sweep_step, hop_step, steps_of}
use Rattle.report_check.specs.Conditions.{IsUpheld}
use Rattle.report_check.specs.Goals.{IsExcludedBy, HasBounds}
use Rattle.report_check.specs.Queries.{IsFormulaOf}
use Rattle.report_check.specs.Refutes.{IsRefuted, IsRefuteQuery, AreAllTold}
use Rattle.report_check.proofs.Asking.{same_seed}
use Rattle.report_check.specs.Supports.{UpheldIsSupported, IsBarred, IsSearchedFor}

-- ---- lists
pub all_at : {X : Type 0} (P : X → Type 0) (xs : List X) (k : ℕ) (x : X) → All P xs → slice_get xs k ≡ Some x → P x
all_at P xs k x all at = subst (λ y. P y) (get_or_from_slice_get xs k x x at) (all k x (slice_get_within xs k x at))

pub each_at : {X : Type 0} (P : X → Type 0) (xs : List X) (k : ℕ) (x : X) → AllByRecursion P xs → slice_get xs k ≡ Some x → P x
each_at P xs k x all at = all_at P xs k x (All-from_recursion P xs all) at

-- ---- clauses
inv_is_kept : (c : Parts) (sig : List ℕ) (r : Report) (place : ℕ) (i : Inv) → IsCircuit c → HasForm r → IsUpheld c sig r → slice_get r.invs place ≡ Some i
    → IsKeptSet (record { circuit = c; clauses = i.clauses; kept = i.kept })
inv_is_kept c sig r place i circuit form upheld at =
    let fits : FitsInv i = each_at FitsInv r.invs place i form.invs.items at in
    let start = (upheld parts.Inv place kinds.Start i at).start refl in
    record {
      circuit = circuit;
      latches = start.latches;
      starts = start.starts;
      count = fits.size;
      accepted = (upheld parts.Inv place kinds.Kept i at).kept refl;
      written = All-weaker FitsProof IsWritable (λ p f. f.ids) i.kept (All-from_recursion FitsProof i.kept fits.kept);
    }

is_barred : (c : Parts) (sig : List ℕ) (r : Report) (goal number place : ℕ) (proof : List LratStep) → IsCircuit c → IsSignals c sig → HasForm r → IsUpheld c sig r
    → slice_get r.goals goal ≡ Some (blocks.Unreachable number place proof) → IsBarred c sig r goal place
is_barred c sig r goal number place proof circuit signals form upheld at =
    let excluded : IsExcludedBy c sig r goal place proof = ((upheld parts.Goal goal kinds.Excludes).each (blocks.Unreachable number place proof) at).excludes refl in
    let count : length r.goals ≡ 2 ^ length sig = (upheld parts.Goal 0 kinds.Count).count refl refl in
    let below : goal < 2 ^ length sig = omega (arith, slice_get_within r.goals goal (blocks.Unreachable number place proof) at, count) in
    let i : Inv = excluded.inv in
    record {
      inv = i;
      at = excluded.at;
      bars = bars c sig i.clauses goal proof circuit signals below
          (is_invariant (record { circuit = c; clauses = i.clauses; kept = i.kept }) (inv_is_kept c sig r place i circuit form upheld excluded.at)) excluded.accepted;
    }

-- ---- searches
-- the query that a step comes from
record IsAsked (step_in : BlockName → Option ℕ) (xs : List Block) (step : ℕ) : Type 0 where
  place : ℕ
  block : Block
  at : slice_get xs place ≡ Some block
  is : step_in block.name ≡ Some step

later : (step_in : BlockName → Option ℕ) (x : Block) (xs : List Block) (step : ℕ) → IsAsked step_in xs step → IsAsked step_in (x ∷ xs) step
later step_in x xs step h = record { place = suc h.place; block = h.block; at = h.at; is = h.is }

asked_first : (step_in : BlockName → Option ℕ) (x : Block) (xs : List Block) (step : ℕ) (first : Option ℕ) → step_in x.name ≡ first
    → (Contains (steps_of step_in xs) step → IsAsked step_in xs step) → Contains (cons_option first (steps_of step_in xs)) step → IsAsked step_in (x ∷ xs) step
asked_first step_in x xs step None is rest has = later step_in x xs step (rest has)
asked_first step_in x xs step (Some t) is rest (zero, inside, same) = record { place = 0; block = x; at = refl; is = is ∙ ap (λ n. Some n) same }
asked_first step_in x xs step (Some t) is rest (suc k, inside, same) = later step_in x xs step (rest (k, omega arith, same))

is_asked : (step_in : BlockName → Option ℕ) (xs : List Block) (step : ℕ) → Contains (steps_of step_in xs) step → IsAsked step_in xs step
is_asked step_in [] step (k, inside, same) = absurd (omega arith)
is_asked step_in (x ∷ xs) step has = asked_first step_in x xs step (step_in x.name) refl (is_asked step_in xs step) has

of_sweep : (name : BlockName) (step : ℕ) → sweep_step name ≡ Some step → name ≡ names.Sweep step
of_sweep (names.Sweep t) step e = ap (λ n. names.Sweep n) (same_Some t step e)
of_sweep (names.Hop b t) step e = absurd cc
of_sweep (names.Kept i clauses) step e = absurd cc
of_sweep (names.Excludes g clauses) step e = absurd cc

hop_chosen : (b batch t step : ℕ) (test : Bool) → nat_eq b batch ≡ test → (if test then Some t else None) ≡ Some step → names.Hop b t ≡ names.Hop batch step
hop_chosen b batch t step true is e =
    let same_b : b ≡ batch = eqb-true b batch is in
    let same_t : t ≡ step = same_Some t step e in
    cc
hop_chosen b batch t step false is e = absurd cc

of_hop : (batch : ℕ) (name : BlockName) (step : ℕ) → hop_step batch name ≡ Some step → name ≡ names.Hop batch step
of_hop batch (names.Sweep t) step e = absurd cc
of_hop batch (names.Hop b t) step e = hop_chosen b batch t step (nat_eq b batch) refl e
of_hop batch (names.Kept i clauses) step e = absurd cc
of_hop batch (names.Excludes g clauses) step e = absurd cc

-- settled goals are below the number of goals
settled_below : (sig : List ℕ) (r : Report) (goals : List ℕ) → length r.goals ≡ 2 ^ length sig → All (IsSettled r) goals → All (λ goal. goal < 2 ^ length sig) goals
settled_below sig r goals count settled =
    All-weaker (IsSettled r) (λ goal. goal < 2 ^ length sig) (λ goal s. omega (arith, slice_get_within r.goals goal s.block s.at, count)) goals settled

-- an open goal isn't left out of a query
not_left_out : (r : Report) (goal : ℕ) (depth : Option ℕ) (hops : List HopBound) (strength : Option ℕ) (goals : List ℕ)
    → slice_get r.goals goal ≡ Some (blocks.Open depth hops strength) → All (IsSettled r) goals → ¬ Contains goals goal
not_left_out r goal depth hops strength goals at settled has =
    let s : IsSettled r goal = All-contains (IsSettled r) goals goal settled has in
    let same : s.block ≡ blocks.Open depth hops strength = same_Some s.block (blocks.Open depth hops strength) (sym s.at ∙ at) in
    let never : true ≡ false = rw same at s.settled in
    absurd cc

-- a search whose formula is refuted shows no open goal at its step
not_shown : (c : Parts) (sig : List ℕ) (r : Report) (start : Start) (state : List Bool) (step goal : ℕ) (depth : Option ℕ) (hops : List HopBound) (strength : Option ℕ)
    (blocked : List ℕ) (formula : CnfFormula) (proof : List LratStep) → IsCircuit c → IsSignals c sig → IsStart c start → Allows c start state
    → length r.goals ≡ 2 ^ length sig → slice_get r.goals goal ≡ Some (blocks.Open depth hops strength) → All (IsSettled r) blocked
    → formula ≡ search_formula c sig start step blocked → Accepted formula proof → ¬ At c sig state step goal
not_shown c sig r start state step goal depth hops strength blocked formula proof circuit signals is_start allowed count at settled is accepted shown =
    let accepted_here : Accepted (search_formula c sig start step blocked) proof = subst (λ (f : CnfFormula). Accepted f proof) is accepted in
    not_left_out r goal depth hops strength blocked at settled
    (none_is_new_lem c sig start step blocked circuit signals is_start (settled_below sig r blocked count settled)
    (accepted_refutes (search_formula c sig start step blocked) proof accepted_here) state goal allowed shown)

state_wide : (c : Parts) (sig : List ℕ) (r : Report) (batch : ℕ) (seed : SeedLine) → HasForm r → IsUpheld c sig r → slice_get r.seeds batch ≡ Some (Some seed) → length seed.state ≡ length c.latches
state_wide c sig r batch seed form upheld at =
    let fits : FitsSeed r.inputs r.latches (Some seed) = each_at (FitsSeed r.inputs r.latches) r.seeds batch (Some seed) form.seeds.items at in
    fits.state_wide ∙ ((upheld parts.Size 0 kinds.Differs).differs refl refl).latches

is_searched_for : (c : Parts) (sig : List ℕ) (r : Report) (goal : ℕ) (depth : Option ℕ) (hops : List HopBound) (strength : Option ℕ) → IsCircuit c → IsSignals c sig → HasForm r → IsUpheld c sig r
    → r.options.proofs ≡ true → slice_get r.goals goal ≡ Some (blocks.Open depth hops strength) → IsSearchedFor c sig r goal depth hops
is_searched_for c sig r goal depth hops strength circuit signals form upheld proofs at =
    let count : length r.goals ≡ 2 ^ length sig = (upheld parts.Goal 0 kinds.Count).count refl refl in
    let bounds : HasBounds r goal (blocks.Open depth hops strength) = ((upheld parts.Goal goal kinds.Bound).each (blocks.Open depth hops strength) at).bound refl in
    let left : HasOpen r = record { goal = goal; block = blocks.Open depth hops strength; at = at; is_left = refl } in
    let told : AreAllTold r = (upheld parts.Refute (length r.refutes) kinds.Missing).missing refl refl proofs left in
    record {
      sweep = λ bound step state is near reset shown. (
          let asked : IsAsked sweep_step r.refutes step = is_asked sweep_step r.refutes step (told.sweep bound step (sym bounds.0 ∙ is) near) in
          let b : Block = asked.block in
          let name : b.name ≡ names.Sweep step = of_sweep b.name step asked.is in
          let query : IsRefuteQuery r asked.place b = ((upheld parts.Refute asked.place kinds.Query).each b asked.at).query refl in
          let refuted : IsRefuted c sig r b = ((upheld parts.Refute asked.place kinds.Proof).each b asked.at).proof refl in
          let is_formula : IsFormulaOf c sig r b.blocked (names.Sweep step) refuted.formula = subst (λ (n : BlockName). IsFormulaOf c sig r b.blocked n refuted.formula) name refuted.of_query in
          not_shown c sig r Reset state step goal depth hops strength b.blocked refuted.formula b.proof circuit signals tt reset count at query.left_out is_formula refuted.accepted shown
          );
      hop = λ batch bound step seed has is near shown. (
          let asked : IsAsked (hop_step batch) r.refutes step =
          is_asked (hop_step batch) r.refutes step (told.hops batch bound step (subst (λ (hs : List HopBound). slice_get hs batch ≡ Some (hop_bounds.To bound)) bounds.1 is) near) in
          let b : Block = asked.block in
          let name : b.name ≡ names.Hop batch step = of_hop batch b.name step asked.is in
          let query : IsRefuteQuery r asked.place b = ((upheld parts.Refute asked.place kinds.Query).each b asked.at).query refl in
          let refuted : IsRefuted c sig r b = ((upheld parts.Refute asked.place kinds.Proof).each b asked.at).proof refl in
          let is_formula : IsFormulaOf c sig r b.blocked (names.Hop batch step) refuted.formula = subst (λ (n : BlockName). IsFormulaOf c sig r b.blocked n refuted.formula) name refuted.of_query in
          let same : is_formula.0 ≡ seed = same_seed is_formula.0 seed (sym is_formula.1 ∙ has) in
          let here : refuted.formula ≡ search_formula c sig (State seed.state) step b.blocked =
          subst (λ (s : SeedLine). refuted.formula ≡ search_formula c sig (State s.state) step b.blocked) same is_formula.2 in
          not_shown c sig r (State seed.state) seed.state step goal depth hops strength b.blocked refuted.formula b.proof circuit signals
          (state_wide c sig r batch seed form upheld has) refl count at query.left_out here refuted.accepted shown
          );
    }

pub upheld_is_supported_lem : UpheldIsSupported
upheld_is_supported_lem c sig r circuit signals form upheld = record {
  each = (upheld parts.Goal 0 kinds.Count).count refl refl;
  reached = λ goal number witness at. ((upheld parts.Goal goal kinds.Trace).each (blocks.Reached number witness) at).trace refl;
  unreachable = λ goal number inv proof at. is_barred c sig r goal number inv proof circuit signals form upheld at;
  open_goals = λ proofs goal depth hops strength at. is_searched_for c sig r goal depth hops strength circuit signals form upheld proofs at;
}
