-- A search between its steps.
use Rattle.std.specs.Prelude.{◌≡◌, ℕ, ◌+◌, ◌<◌, ◌≤◌, Bool, true, false, List, [], ◌∷◌, ◌++◌, All}
use Rattle.aig_model.specs.declared.parts.Parts.{Parts}
use Rattle.unroll.specs.declared.start.Start.{Start}
use Rattle.sweep_search.specs.Sweep.{IsSettled, AreAllSettled, IsWithin, AreNewFrom, IsLastStep, IsRefutedFrom, IsSpentFrom}
use Rattle.sweep_search.specs.declared.search.StepEnd.{StepEnd}
use Rattle.sweep_search.specs.declared.search.StepEnd.TheVariants.{Whole, AllSettled, Spent}
use Rattle.sweep_search.specs.declared.swept.FoundGoal.{FoundGoal}
use Rattle.sweep_search.specs.declared.swept.StepQuery.{StepQuery}

-- so many steps are searched whole, and the next one may be begun
pub record IsSearched (c : Parts) (sig : List ℕ) (start : Start) (known : List Bool) (step : ℕ) (found : List FoundGoal) : Type 0 where
  pub news : AreNewFrom c sig start known found
  pub near : All (λ (f : FoundGoal). f.step ≤ step) found
  pub whole : (d goal : ℕ) → d < step → IsWithin c sig start d goal → IsSettled known found goal
  -- the steps before left some goal
  pub timely : AreAllSettled sig known found → IsLastStep found step

-- what the search of a step adds to what was found before
pub record AddsAt (step : ℕ) (old new : List FoundGoal) : Type 0 where
  pub more : List FoundGoal
  pub after : new ≡ old ++ more
  pub here : All (λ (f : FoundGoal). f.step ≡ step) more

-- the queries after one more step, where they are kept
abbrev pub with_query : Bool → List StepQuery → StepQuery → List StepQuery
with_query false queries q = queries
with_query true queries q = queries ++ q ∷ []

-- how the search of the next step ends
abbrev pub IsStepEnd : Parts → List ℕ → Start → List Bool → ℕ → ℕ → List FoundGoal → StepEnd → Type 0
IsStepEnd c sig start known step lemmas found (Whole q) =
    All (λ (f : FoundGoal). f.step ≤ step) found × IsSearched c sig start known (step + 1) found × (¬ AreAllSettled sig known found)
    × IsRefutedFrom c sig start known found step lemmas q
IsStepEnd c sig start known step lemmas found AllSettled = IsSearched c sig start known step found × AreAllSettled sig known found
IsStepEnd c sig start known step lemmas found (Spent q) = IsSearched c sig start known step found × IsSpentFrom c sig start known found step lemmas q
