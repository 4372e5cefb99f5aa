-- What a search finds, step by step from its start, and how far it goes. A sweep is one from reset, a hop one from a state.
use Rattle.std.specs.Prelude.{◌≡◌, ◌≢◌, ◌⊎◌, ℕ, suc, ◌+◌, ◌-◌, ◌<◌, ◌≤◌, ◌^◌, ◌↔◌, Bool, false, true, List, [], length, map, get_or, All, AllPairs, Any, Contains, slice_get, Option, Some, None, IfSome}
use Rattle.std.specs.List.Sorted.{IsStrictlyIncreasing}
use Rattle.aig_model.specs.Meaning.{Assignment, At, Run, Within, goal_of, input_values}
use Rattle.aig_model.specs.Replays.{Shows}
use Rattle.aig_model.specs.declared.parts.Parts.{Parts}
use Rattle.aig_model.specs.declared.trace.Trace.{Trace}
use Rattle.sat_solver.specs.Answer.{IsRefutation, IsSpending}
use Rattle.unroll.specs.declared.start.Start.{Start}
use Rattle.unroll.specs.declared.start.Start.TheVariants as starts
use Rattle.unroll.specs.Queries.{search_formula}
use Rattle.sweep_search.specs.declared.swept.FoundGoal.{FoundGoal}
use Rattle.sweep_search.specs.declared.swept.StepQuery.{StepQuery}
use Rattle.sweep_search.specs.declared.swept.Swept.{Swept}

-- ---- goals that are settled
-- of a list with a value for each goal, the goal's value is true
abbrev pub IsMarked : List Bool → ℕ → Type 0
IsMarked marks goal = get_or marks goal false ≡ true

abbrev pub goals_of : List FoundGoal → List ℕ
goals_of found = map (λ (f : FoundGoal). f.goal) found

-- the goal was known before the search, or is found by it
abbrev pub IsSettled : List Bool → List FoundGoal → ℕ → Type 0
IsSettled known found goal = IsMarked known goal ⊎ Contains (goals_of found) goal

abbrev pub AreAllSettled : List ℕ → List Bool → List FoundGoal → Type 0
AreAllSettled sig known found = (goal : ℕ) → goal < 2 ^ length sig → IsSettled known found goal

-- ---- from a start
-- the goal is reached within so many steps from a state that the start allows
abbrev pub IsWithin : Parts → List ℕ → Start → ℕ → ℕ → Type 0
IsWithin c sig starts.Any depth goal = (state : List Bool) × (length state ≡ length c.latches) × (t : ℕ) × (t ≤ depth) × At c sig state t goal
IsWithin c sig starts.Reset depth goal = Within c sig depth goal
IsWithin c sig (starts.State state) depth goal = (t : ℕ) × (t ≤ depth) × At c sig state t goal

-- the rows are those of a run from the trace's start, whose last assignment shows the goal
pub record EndsIn (c : Parts) (sig : List ℕ) (trace : Trace) (goal : ℕ) : Type 0 where
  pub width : trace.rows.width ≡ length c.inputs
  pub frames : List Assignment
  pub rows : map (input_values c) frames ≡ trace.rows.rows
  pub run : Run c trace.start frames
  pub shows : goal_of sig (get_or frames (length frames - 1) []) ≡ goal

-- the trace shows the goal, from a state that the start allows
abbrev pub ShowsFrom : Parts → List ℕ → Start → Trace → ℕ → Type 0
ShowsFrom c sig starts.Any trace goal = (length trace.start ≡ length c.latches) × EndsIn c sig trace goal
ShowsFrom c sig starts.Reset trace goal = Shows c sig trace goal
ShowsFrom c sig (starts.State state) trace goal = (trace.start ≡ state) × EndsIn c sig trace goal

-- ---- what is found
-- A goal, a trace from the start of as many rows as its step says that shows it, and no way to reach it in fewer steps.
pub record IsFirstFrom (c : Parts) (sig : List ℕ) (start : Start) (f : FoundGoal) : Type 0 where
  pub shows : ShowsFrom c sig start f.trace f.goal
  pub rows : length f.trace.rows.rows ≡ f.step + 1
  pub least : (d : ℕ) → IsWithin c sig start d f.goal → f.step ≤ d

-- goals that weren't known, each once, in order of their steps
pub record AreNewFrom (c : Parts) (sig : List ℕ) (start : Start) (known : List Bool) (found : List FoundGoal) : Type 0 where
  pub reached : All (IsFirstFrom c sig start) found
  pub new : All (λ (f : FoundGoal). ¬ IsMarked known f.goal) found
  pub once : AllPairs (λ (f g : FoundGoal). f.goal ≢ g.goal) found
  pub ordered : AllPairs (λ (f g : FoundGoal). f.step ≤ g.step) found

-- ---- how far it goes
-- the number of steps up to this one, from 0 on
abbrev pub steps_up_to : Option ℕ → ℕ
steps_up_to None = 0
steps_up_to (Some t) = suc t

-- The search of this step that leaves out exactly the settled goals takes more lemmas than the budget has: the proof spends
-- it all.
pub record IsSpentFrom (c : Parts) (sig : List ℕ) (start : Start) (known : List Bool) (found : List FoundGoal) (step lemmas : ℕ) (q : StepQuery) : Type 0 where
  pub step_is : q.step ≡ step
  pub blocked : (goal : ℕ) → Contains q.blocked goal ↔ IsSettled known found goal
  pub rising : IsStrictlyIncreasing q.blocked
  pub spending : IsSpending (search_formula c sig start q.step q.blocked) lemmas q.proof

-- ---- the steps that are searched whole
-- the goal was known before the search, or is found by it up to this step
abbrev pub IsSettledBy : List Bool → List FoundGoal → ℕ → ℕ → Type 0
IsSettledBy known found step goal = IsMarked known goal ⊎ Any (λ (f : FoundGoal). (f.step ≤ step) × (f.goal ≡ goal)) found

-- The search of this step that leaves out exactly the goals that are settled once it ends has no model, as the proof shows.
pub record IsRefutedFrom (c : Parts) (sig : List ℕ) (start : Start) (known : List Bool) (found : List FoundGoal) (step lemmas : ℕ) (q : StepQuery) : Type 0 where
  pub step_is : q.step ≡ step
  pub blocked : (goal : ℕ) → Contains q.blocked goal ↔ IsSettledBy known found step goal
  pub rising : IsStrictlyIncreasing q.blocked
  pub refutation : IsRefutation (search_formula c sig start q.step q.blocked) lemmas q.proof

-- one query for each of so many steps, from 0 on
pub record AreRefutedFrom (c : Parts) (sig : List ℕ) (start : Start) (known : List Bool) (found : List FoundGoal) (steps lemmas : ℕ) (queries : List StepQuery) : Type 0 where
  pub count : length queries ≡ steps
  pub each : (step : ℕ) (q : StepQuery) → slice_get queries step ≡ Some q → IsRefutedFrom c sig start known found step lemmas q

-- they are told where the caller asks for them
abbrev pub AreRefutedIf : Bool → Parts → List ℕ → Start → List Bool → List FoundGoal → ℕ → ℕ → List StepQuery → Type 0
AreRefutedIf false c sig start known found steps lemmas queries = queries ≡ []
AreRefutedIf true c sig start known found steps lemmas queries = AreRefutedFrom c sig start known found steps lemmas queries

-- ---- where it ends
-- the last goal of the list was found at this step, unless it is the first one
abbrev pub IsLastStep : List FoundGoal → ℕ → Type 0
IsLastStep found step = (step ≡ 0) ⊎ Any (λ (f : FoundGoal). f.step ≡ step) found

-- The search went to the depth with some goal left, or to the step at which the last goal was settled; or a query of the next
-- step is spent.
abbrev pub IsEndFrom : Parts → List ℕ → Start → List Bool → ℕ → ℕ → List FoundGoal → Option ℕ → Option StepQuery → Type 0
IsEndFrom c sig start known depth lemmas found upto None =
    ((upto ≡ Some depth) × (¬ AreAllSettled sig known found)) ⊎ (AreAllSettled sig known found × IsLastStep found (steps_up_to upto))
IsEndFrom c sig start known depth lemmas found upto (Some q) = (q.step ≤ depth) × IsSpentFrom c sig start known found (steps_up_to upto) lemmas q

-- the step comes before a spent query's
abbrev pub IsBefore : ℕ → Option StepQuery → Type 0
IsBefore d spent = IfSome spent (λ (q : StepQuery). d < q.step)

-- ---- the whole search
pub record IsSearchFrom (c : Parts) (sig : List ℕ) (start : Start) (known : List Bool) (depth lemmas : ℕ) (keep : Bool) (s : Swept) : Type 0 where
  pub found : AreNewFrom c sig start known s.found
  -- each goal within the depth is settled, but for the step of a spent query and those after it
  pub settles : (d goal : ℕ) → d ≤ depth → IsBefore d s.spent → IsWithin c sig start d goal → IsSettled known s.found goal
  -- each goal up to the last step that was searched whole is settled
  pub whole : (d goal : ℕ) → s.upto ≡ Some d → IsWithin c sig start d goal → IsSettled known s.found goal
  pub near : steps_up_to s.upto ≤ depth + 1
  -- what is found is found in these steps and the next one, and no later than the depth
  pub next : All (λ (f : FoundGoal). f.step ≤ steps_up_to s.upto) s.found
  pub shallow : All (λ (f : FoundGoal). f.step ≤ depth) s.found
  pub end : IsEndFrom c sig start known depth lemmas s.found s.upto s.spent
  -- each step that was searched whole has the query that shows it, where they are kept
  pub refuted : AreRefutedIf keep c sig start known s.found (steps_up_to s.upto) lemmas s.refuted

-- ---- a sweep: from reset
-- the goal is reached from reset, as its trace shows, and in no fewer steps
abbrev pub IsFirstReached : Parts → List ℕ → FoundGoal → Type 0
IsFirstReached c sig f = IsFirstFrom c sig starts.Reset f

abbrev pub AreNewGoals : Parts → List ℕ → List Bool → List FoundGoal → Type 0
AreNewGoals c sig known found = AreNewFrom c sig starts.Reset known found

abbrev pub IsSpentQuery : Parts → List ℕ → List Bool → List FoundGoal → ℕ → ℕ → StepQuery → Type 0
IsSpentQuery c sig known found step lemmas q = IsSpentFrom c sig starts.Reset known found step lemmas q

abbrev pub IsEnd : Parts → List ℕ → List Bool → ℕ → ℕ → List FoundGoal → Option ℕ → Option StepQuery → Type 0
IsEnd c sig known depth lemmas found upto spent = IsEndFrom c sig starts.Reset known depth lemmas found upto spent

abbrev pub IsSweep : Parts → List ℕ → List Bool → ℕ → ℕ → Bool → Swept → Type 0
IsSweep c sig known depth lemmas keep s = IsSearchFrom c sig starts.Reset known depth lemmas keep s

-- ---- a hop: from a state
abbrev pub IsHopFrom : Parts → List ℕ → List Bool → List Bool → ℕ → ℕ → Bool → Swept → Type 0
IsHopFrom c sig state known hop lemmas keep s = IsSearchFrom c sig (starts.State state) known hop lemmas keep s
