-- What each answer of a search says.
use Rattle.std.specs.Prelude.{ℕ, ◌+◌, ◌^◌, ◌<◌, ◌≤◌, ◌≡◌, Bool, List, [], map, length, get_or, All, Contains}
use Rattle.cnf_base.specs.Meaning.{CnfFormula}
use Rattle.aig_model.specs.WellFormed.{IsCircuit}
use Rattle.aig_model.specs.SignalList.{IsSignals}
use Rattle.aig_model.specs.Meaning.{Assignment, Run, At, input_values, goal_of}
use Rattle.aig_model.specs.declared.parts.Parts.{Parts}
use Rattle.aig_model.specs.declared.trace.Trace.{Trace}
use Rattle.lrat_text.specs.declared.proof.LratStep.{LratStep}
use Rattle.sat_solver.specs.Answer.{IsRefutation, IsSpending}
use Rattle.unroll.specs.declared.start.Start.{Start}
use Rattle.unroll.specs.Starts.{Allows, IsStart}
use Rattle.unroll.specs.Queries.{search_formula}
use Rattle.hop_search.specs.declared.hop.Hop.{Hop}
use Rattle.hop_search.specs.declared.hop.Hop.TheVariants.{New, NoMore, Spent}

-- The formula is that of a search, over a well-formed circuit, and has few enough clauses for the solver.
pub record Asks (c : Parts) (sig : List ℕ) (start : Start) (step : ℕ) (settled : List ℕ) (formula : CnfFormula) : Type 0 where
  pub circuit : IsCircuit c
  pub signals : IsSignals c sig
  pub start_is : IsStart c start
  pub goals : All (λ goal. goal < 2 ^ length sig) settled
  pub formula_is : formula ≡ search_formula c sig start step settled
  pub few_vars : formula.vars ≤ 4000000
  pub few_clauses : length formula.clauses < 2 ^ 60

-- ---- the answers
-- A goal that isn't settled, with a trace from a state that the start allows: its rows make a run of the steps 0 to step,
-- whose last one shows the goal.
pub record IsNewGoal (c : Parts) (sig : List ℕ) (start : Start) (step : ℕ) (settled : List ℕ) (goal : ℕ) (trace : Trace) : Type 0 where
  pub unsettled : ¬ Contains settled goal
  pub allowed : Allows c start trace.start
  pub width : trace.rows.width ≡ length c.inputs
  pub frames : List Assignment
  pub rows : map (input_values c) frames ≡ trace.rows.rows
  pub size : length frames ≡ step + 1
  pub run : Run c trace.start frames
  pub shows : goal_of sig (get_or frames step []) ≡ goal

-- An accepted proof that no run ends in a goal that isn't settled; so each goal at this step is settled.
pub record IsNoMore (c : Parts) (sig : List ℕ) (start : Start) (step : ℕ) (settled : List ℕ) (lemmas : ℕ) (proof : List LratStep) : Type 0 where
  pub refutation : IsRefutation (search_formula c sig start step settled) lemmas proof
  pub all_settled : (state : List Bool) (goal : ℕ) → Allows c start state → At c sig state step goal → Contains settled goal

abbrev pub IsHop : Parts → List ℕ → Start → ℕ → List ℕ → ℕ → Hop → Type 0
IsHop c sig start step settled lemmas (New goal trace) = IsNewGoal c sig start step settled goal trace
IsHop c sig start step settled lemmas (NoMore proof) = IsNoMore c sig start step settled lemmas proof
IsHop c sig start step settled lemmas (Spent proof) = IsSpending (search_formula c sig start step settled) lemmas proof
