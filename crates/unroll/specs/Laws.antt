-- What the formulas mean.
use Rattle.std.specs.Prelude.{ℕ, ◌+◌, ◌^◌, ◌<◌, ◌≤◌, ◌≡◌, ◌≢◌, ◌↔◌, Bool, ℤ, List, [], length, get_or, All, Contains}
use Rattle.std.specs.List.Sorted.{IsStrictlyIncreasing}
use Rattle.cnf_base.specs.Meaning.{IsModel, HasNoModel}
use Rattle.aig_model.specs.Table.{rows_of}
use Rattle.aig_model.specs.WellFormed.{IsCircuit}
use Rattle.aig_model.specs.SignalList.{IsSignals}
use Rattle.aig_model.specs.Meaning.{Assignment, Fits, IsLegal, Run, At, latch_values, next_values, goal_of}
use Rattle.aig_model.specs.LatchClauses.{SatisfiesClause, SatisfiesClauses}
use Rattle.aig_model.specs.declared.parts.Parts.{Parts}
use Rattle.unroll.specs.declared.start.Start.{Start}
use Rattle.unroll.specs.Starts.{IsStart, Allows}
use Rattle.unroll.specs.Frames.{vars_before, frames_formula}
use Rattle.unroll.specs.Queries.{search_formula, kept_formula, excludes_formula}

-- ---- runs
-- values of so many steps, cut into the assignments of the steps
abbrev pub frames_of : Parts → ℕ → List Bool → List Assignment
frames_of c last bits = rows_of (c.top + 1) (last + 1) bits

-- the values are those of a run from a state that the start allows
pub record AreRun (c : Parts) (start : Start) (last : ℕ) (bits : List Bool) : Type 0 where
  pub size : length bits ≡ vars_before c (last + 1)
  pub state : List Bool
  pub allowed : Allows c start state
  pub run : Run c state (frames_of c last bits)

-- Values satisfy the frames exactly where they are a run.
abbrev pub FramesAreRuns : Type 0
FramesAreRuns = (c : Parts) (start : Start) (last : ℕ) (bits : List Bool) → IsCircuit c → IsStart c start
    → IsModel (frames_formula c start last) bits ↔ AreRun c start last bits

-- ---- the search
-- the values are those of a run that ends in a goal that is not blocked
pub record AreNew (c : Parts) (sig : List ℕ) (start : Start) (step : ℕ) (blocked : List ℕ) (bits : List Bool) : Type 0 where
  pub run : AreRun c start step bits
  pub goal : ¬ Contains blocked (goal_of sig (get_or (frames_of c step bits) step []))

-- Values satisfy the search formula exactly where they are such a run.
abbrev pub SearchedAreNew : Type 0
SearchedAreNew = (c : Parts) (sig : List ℕ) (start : Start) (step : ℕ) (blocked : List ℕ) (bits : List Bool) → IsCircuit c → IsSignals c sig
    → IsStart c start → All (λ goal. goal < 2 ^ length sig) blocked → IsModel (search_formula c sig start step blocked) bits ↔ AreNew c sig start step blocked bits

-- Where the search formula has no model, each goal at this step, from a state that the start allows, is blocked.
abbrev pub NoneIsNew : Type 0
NoneIsNew = (c : Parts) (sig : List ℕ) (start : Start) (step : ℕ) (blocked : List ℕ) → IsCircuit c → IsSignals c sig → IsStart c start
    → All (λ goal. goal < 2 ^ length sig) blocked
    → HasNoModel (search_formula c sig start step blocked).clauses
    → (state : List Bool) (goal : ℕ) → Allows c start state → At c sig state step goal → Contains blocked goal

-- ---- clauses over latches
-- a legal assignment in whose state the clauses hold
pub record Holds (c : Parts) (clauses : List (List ℤ)) (a : Assignment) : Type 0 where
  pub fits : Fits c a
  pub legal : IsLegal c a
  pub satisfied : SatisfiesClauses (latch_values c a) clauses

-- Values satisfy the kept formula exactly where the clauses hold before the step, and the clause at this place is false after it.
abbrev pub KeptModels : Type 0
KeptModels = (c : Parts) (clauses : List (List ℤ)) (place : ℕ) (a : Assignment) → IsCircuit c
    → IsModel (kept_formula c clauses place) a ↔ (Holds c clauses a × (¬ SatisfiesClause (next_values c a) (get_or clauses place [])))

-- Where the kept formula has no model, the clause holds after each step before which the clauses hold.
abbrev pub KeptIsRefuted : Type 0
KeptIsRefuted = (c : Parts) (clauses : List (List ℤ)) (place : ℕ) → IsCircuit c
    → HasNoModel (kept_formula c clauses place).clauses → (a : Assignment) → Holds c clauses a → SatisfiesClause (next_values c a) (get_or clauses place [])

-- Values satisfy the excludes formula exactly where the clauses hold and the goal is shown.
abbrev pub ExcludesModels : Type 0
ExcludesModels = (c : Parts) (sig : List ℕ) (clauses : List (List ℤ)) (goal : ℕ) (a : Assignment) → IsCircuit c → IsSignals c sig
    → goal < 2 ^ length sig → IsModel (excludes_formula c sig clauses goal) a ↔ (Holds c clauses a × (goal_of sig a ≡ goal))

-- Where the excludes formula has no model, no legal assignment in whose state the clauses hold shows the goal.
abbrev pub ExcludedIsRefuted : Type 0
ExcludedIsRefuted = (c : Parts) (sig : List ℕ) (clauses : List (List ℤ)) (goal : ℕ) → IsCircuit c → IsSignals c sig → goal < 2 ^ length sig
    → HasNoModel (excludes_formula c sig clauses goal).clauses → (a : Assignment) → Holds c clauses a → goal_of sig a ≢ goal

-- ---- sizes
-- The formulas have few enough clauses for the solver.
abbrev pub FewToSearch : Type 0
FewToSearch = (c : Parts) (sig : List ℕ) (start : Start) (step : ℕ) (blocked : List ℕ) → IsCircuit c → IsSignals c sig → vars_before c (step + 1) ≤ 4000000
    → IsStrictlyIncreasing blocked → All (λ goal. goal < 2 ^ length sig) blocked → length (search_formula c sig start step blocked).clauses < 2 ^ 60

abbrev pub FewToKeep : Type 0
FewToKeep = (c : Parts) (clauses : List (List ℤ)) (place : ℕ) → IsCircuit c → length clauses < 2 ^ 32 → length (get_or clauses place []) < 2 ^ 32
    → length (kept_formula c clauses place).clauses < 2 ^ 60

abbrev pub FewToExclude : Type 0
FewToExclude = (c : Parts) (sig : List ℕ) (clauses : List (List ℤ)) (goal : ℕ) → IsCircuit c → IsSignals c sig → length clauses < 2 ^ 32
    → length (excludes_formula c sig clauses goal).clauses < 2 ^ 60
