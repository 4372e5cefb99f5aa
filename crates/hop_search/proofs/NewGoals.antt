-- The answers of a search from those of the solver, and what new goals are good for.
use Rattle.std.proofs.Common.{◌≡◌, ℕ, ◌+◌, ◌-◌, ◌*◌, ◌^◌, ◌<◌, ◌≤◌, Bool, List, [], map, take, drop, length, get_or, sym, ap, ◌∙◌, subst, arith, All, Contains}
use Rattle.std.specs.List.Sorted.{IsStrictlyIncreasing}
use Rattle.cnf_base.specs.Meaning.{CnfFormula, IsModel}
use Rattle.aig_model.specs.WellFormed.{IsCircuit}
use Rattle.aig_model.specs.SignalList.{IsSignals}
use Rattle.aig_model.specs.Meaning.{Run, input_values, latch_values, goal_of}
use Rattle.aig_model.specs.declared.parts.Parts.{Parts}
use Rattle.aig_model.specs.declared.trace.Trace.{Trace}
use Rattle.lrat_text.specs.declared.proof.LratStep.{LratStep}
use Rattle.lrat_check.proofs.Refutation.{accepted_refutes}
use Rattle.sat_solver.specs.Answer.{IsRefutation, IsSpending}
use Rattle.unroll.specs.declared.start.Start.{Start}
use Rattle.unroll.specs.Starts.{Allows, IsStart}
use Rattle.unroll.specs.Frames.{vars_before}
use Rattle.unroll.specs.Framing.{Framing, IsFraming, Puts}
use Rattle.unroll.specs.Queries.{search_formula}
use Rattle.unroll.specs.Laws.{AreNew, frames_of}
use Rattle.unroll.proofs.ClauseCount.{few_to_search_lem}
use Rattle.unroll.proofs.RunMeaning.{frame_at, frame_count}
use Rattle.unroll.proofs.SearchMeaning.{searched_are_new_lem, none_is_new_lem}
use Rattle.hop_search.specs.Answers.{Asks, IsNewGoal, IsNoMore}
use Rattle.hop_search.specs.Framed.{Queries}
use Rattle.hop_search.specs.Laws.{NewReplays, NewIsAt}

-- ---- the query
pub asks_of : (c : Parts) (sig : List ℕ) (start : Start) (step : ℕ) (settled : List ℕ) (formula : CnfFormula) → IsCircuit c → IsSignals c sig → IsStart c start
    → IsStrictlyIncreasing settled → All (λ goal. goal < 2 ^ length sig) settled → formula ≡ search_formula c sig start step settled → formula.vars ≤ 4000000
    → Asks c sig start step settled formula
asks_of c sig start step settled formula ok are is rising below e few =
    let room : vars_before c (step + 1) ≤ 4000000 = subst (λ n. n ≤ 4000000) (ap (λ (f : CnfFormula). f.vars) e) few in
    record {
      circuit = ok;
      signals = are;
      start_is = is;
      goals = below;
      formula_is = e;
      few_vars = few;
      few_clauses = subst (λ (f : CnfFormula). length f.clauses < 2 ^ 60) (sym e) (few_to_search_lem c sig start step settled ok are room rising below);
    }

pub queries_of : (c : Parts) (sig settled : List ℕ) (old new : Framing) → IsCircuit c → IsSignals c sig → IsStrictlyIncreasing settled
    → All (λ goal. goal < 2 ^ length sig) settled → IsFraming old → old.circuit ≡ c
    → Puts old new (search_formula old.circuit sig old.start old.last settled) → Queries c sig settled old new
queries_of c sig settled old new ok are rising below framing same puts =
    let is = subst (λ (p : Parts). IsStart p old.start) same framing.start in
    let e : new.formula ≡ search_formula c sig old.start old.last settled = puts.formula_is ∙ ap (λ (p : Parts). search_formula p sig old.start old.last settled) same in
    let few : new.formula.vars ≤ 4000000 = omega (arith, puts.frames.framing.vars, puts.frames.framing.few) in
    record {
      frames = record { framing = puts.frames.framing; circuit = puts.frames.circuit ∙ same; start_is = puts.frames.start_is; last_is = puts.frames.last_is };
      asks = asks_of c sig old.start old.last settled new.formula ok are is rising below e few;
    }

-- a model has the values of all steps
pub model_size : (c : Parts) (sig : List ℕ) (start : Start) (step : ℕ) (settled : List ℕ) (formula : CnfFormula) (bits : List Bool)
    → Asks c sig start step settled formula → IsModel formula bits → length bits ≡ vars_before c (step + 1)
model_size c sig start step settled formula bits asks model = model.number ∙ ap (λ (f : CnfFormula). f.vars) asks.formula_is

-- ---- the answers
-- the trace and the goal that are read from a model
pub new_goal_of : (c : Parts) (sig : List ℕ) (start : Start) (step : ℕ) (settled : List ℕ) (formula : CnfFormula) (bits : List Bool) (goal : ℕ) (trace : Trace)
    → Asks c sig start step settled formula → IsModel formula bits → goal ≡ goal_of sig (get_or (frames_of c step bits) step [])
    → trace.start ≡ latch_values c (get_or (frames_of c step bits) 0 []) → trace.rows.width ≡ length c.inputs
    → trace.rows.rows ≡ map (input_values c) (frames_of c step bits) → IsNewGoal c sig start step settled goal trace
new_goal_of c sig start step settled formula bits goal trace asks model shown begins wide read =
    let fs = frames_of c step bits in
    let count = frame_count c step bits in
    let found : AreNew c sig start step settled bits =
    (searched_are_new_lem c sig start step settled bits asks.circuit asks.signals asks.start_is asks.goals).0
    (subst (λ (f : CnfFormula). IsModel f bits) asks.formula_is model)
    in
    let state : found.run.state ≡ trace.start = sym (found.run.run.path.start (omega arith)) ∙ sym begins in
    record {
      unsettled = λ h. found.goal (subst (Contains settled) shown h);
      allowed = subst (Allows c start) state found.run.allowed;
      width = wide;
      frames = fs;
      rows = sym read;
      size = count;
      run = subst (λ (s : List Bool). Run c s fs) state found.run.run;
      shows = sym shown;
    }

pub no_more_of : (c : Parts) (sig : List ℕ) (start : Start) (step : ℕ) (settled : List ℕ) (formula : CnfFormula) (lemmas : ℕ) (proof : List LratStep)
    → Asks c sig start step settled formula → IsRefutation formula lemmas proof → IsNoMore c sig start step settled lemmas proof
no_more_of c sig start step settled formula lemmas proof asks refutation =
    let here = subst (λ (f : CnfFormula). IsRefutation f lemmas proof) asks.formula_is refutation in
    record {
      refutation = here;
      all_settled = none_is_new_lem c sig start step settled asks.circuit asks.signals asks.start_is asks.goals
          (accepted_refutes (search_formula c sig start step settled) proof here.accepted);
    }

pub spent_of : (c : Parts) (sig : List ℕ) (start : Start) (step : ℕ) (settled : List ℕ) (formula : CnfFormula) (lemmas : ℕ) (proof : List LratStep)
    → Asks c sig start step settled formula → IsSpending formula lemmas proof → IsSpending (search_formula c sig start step settled) lemmas proof
spent_of c sig start step settled formula lemmas proof asks spending = subst (λ (f : CnfFormula). IsSpending f lemmas proof) asks.formula_is spending

-- ---- what new goals are good for
pub new_replays_lem : NewReplays
new_replays_lem c sig step settled goal trace new =
    let last : length new.frames - 1 ≡ step = omega (arith, new.size) in
    record {
      reset = new.allowed;
      width = new.width;
      frames = new.frames;
      rows = new.rows;
      run = new.run;
      shows = ap (λ n. goal_of sig (get_or new.frames n [])) last ∙ new.shows;
    }

pub new_is_at_lem : NewIsAt
new_is_at_lem c sig start step settled goal trace new = record { frames = new.frames; size = new.size; run = new.run; shows = new.shows }

-- ---- the values of the last step
pub last_values : (c : Parts) (step top : ℕ) (bits values : List Bool) → top ≡ c.top
    → values ≡ take (step * (top + 1) + (top + 1) - step * (top + 1)) (drop (step * (top + 1)) bits) → values ≡ get_or (frames_of c step bits) step []
last_values c step top bits values same read =
    let width : step * (top + 1) + (top + 1) - step * (top + 1) ≡ top + 1 = omega arith in
    read
    ∙ (ap (λ n. take n (drop (step * (top + 1)) bits)) width
    ∙ (ap (λ n. take (n + 1) (drop (step * (n + 1)) bits)) same ∙ sym (frame_at c step bits step [] (omega arith))))
