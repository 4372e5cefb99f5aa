-- What `goals` reads and writes.
use Rattle.std.specs.Prelude.{◌≡◌, ◌+◌, ◌-◌, ◌^◌, ◌<◌, ℕ, Bool, true, List, length}
use Rattle.aig_model.specs.WellFormed.{limit}
use Rattle.aig_model.specs.declared.parts.Parts.{Parts}
use Rattle.aig_ascii.specs.CircuitText.{IsTextOf}
use Rattle.aig_ascii.specs.RoundTrip.{ReadsBack}
use Rattle.goal_circuit.specs.GoalCircuit.{goal_parts}
use Rattle.command_words.specs.declared.stop.Measure.{Measure}
use Rattle.command_words.specs.declared.stop.Measure.TheVariants as measures
use Rattle.cover_run.specs.Covering.{HasCircuit, HasSignals}
use Rattle.cover_run.specs.Seen.{DeskSeen}
use Rattle.command_words.specs.Words.{Subject}

-- the goal circuit would have more variables than a circuit may have
abbrev pub IsTooManyGoals : Parts → List ℕ → Type 0
IsTooManyGoals c sig = limit < c.top + 2 ^ (length sig + 1) - 4

-- both texts are accepted, and the goal circuit is too large
abbrev pub HasTooManyGoals : Subject → DeskSeen → Measure → Type 0
HasTooManyGoals s d measures.Goals = (c : Parts) × (sig : List ℕ) × HasCircuit s d c × HasSignals s d c sig × IsTooManyGoals c sig
HasTooManyGoals s d m = ⊥

-- the bytes are a text of the goal circuit, and spell it
pub record IsGoalText (c : Parts) (sig : List ℕ) (bytes : List ℕ) : Type 0 where
  pub room : ¬ IsTooManyGoals c sig
  pub text : IsTextOf (goal_parts c sig) bytes
  pub reads_back : ReadsBack (goal_parts c sig) bytes

-- ---- the output
-- these bytes are the whole output, which leaves nothing open
pub record IsGoalsOutput (s : Subject) (d : DeskSeen) (bytes : List ℕ) (settled : Bool) : Type 0 where
  pub circuit : Parts
  pub signals : List ℕ
  pub has_circuit : HasCircuit s d circuit
  pub has_signals : HasSignals s d circuit signals
  pub is_text : IsGoalText circuit signals bytes
  pub settled_is : settled ≡ true
