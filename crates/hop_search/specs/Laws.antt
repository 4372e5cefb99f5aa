-- What new goals are good for.
use Rattle.std.specs.Prelude.{ℕ, List}
use Rattle.aig_model.specs.Meaning.{At}
use Rattle.aig_model.specs.Replays.{Shows}
use Rattle.aig_model.specs.declared.parts.Parts.{Parts}
use Rattle.aig_model.specs.declared.trace.Trace.{Trace}
use Rattle.unroll.specs.declared.start.Start.{Start}
use Rattle.unroll.specs.declared.start.Start.TheVariants.{Reset}
use Rattle.hop_search.specs.Answers.{IsNewGoal}

-- The trace of a new goal from reset replays: it shows the goal.
abbrev pub NewReplays : Type 0
NewReplays = (c : Parts) (sig : List ℕ) (step : ℕ) (settled : List ℕ) (goal : ℕ) (trace : Trace) → IsNewGoal c sig Reset step settled goal trace
    → Shows c sig trace goal

-- From any start the goal is at that step from the trace's start.
abbrev pub NewIsAt : Type 0
NewIsAt = (c : Parts) (sig : List ℕ) (start : Start) (step : ℕ) (settled : List ℕ) (goal : ℕ) (trace : Trace)
    → IsNewGoal c sig start step settled goal trace → At c sig trace.start step goal
