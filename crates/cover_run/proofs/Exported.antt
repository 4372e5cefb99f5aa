-- What a goals command writes, and why it stops after its files were read.
use Rattle.std.proofs.Common.{◌≡◌, ℕ, List, subst}
use Rattle.aig_model.specs.declared.parts.Parts.{Parts}
use Rattle.aig_ascii.specs.CircuitText.{IsTextOf}
use Rattle.aig_ascii.specs.RoundTrip.{ReadsBack}
use Rattle.goal_circuit.specs.GoalCircuit.{goal_parts}
use Rattle.command_words.specs.declared.stop.Measure.TheVariants as measures
use Rattle.command_words.specs.declared.stop.Stop.{Stop}
use Rattle.command_words.specs.declared.stop.Stop.TheVariants as stops
use Rattle.cover_run.specs.Answer.{EarlyCause}
use Rattle.cover_run.specs.Covering.{HasCircuit, HasSignals}
use Rattle.cover_run.specs.Exporting.{IsTooManyGoals, IsGoalText}
use Rattle.cover_run.specs.Seen.{DeskSeen}
use Rattle.cover_run.specs.Steps.{GoalsCause}
use Rattle.command_words.specs.Words.{Subject, Goals}

pub goal_text : (c : Parts) (sig : List ℕ) (goals : Parts) (bytes : List ℕ) → (IsTooManyGoals c sig → ⊥) → goals ≡ goal_parts c sig → IsTextOf goals bytes
    → ReadsBack goals bytes → IsGoalText c sig bytes
goal_text c sig goals bytes room is text back = record {
  room = room;
  text = subst (λ (x : Parts). IsTextOf x bytes) is text;
  reads_back = subst (λ (x : Parts). ReadsBack x bytes) is back;
}

pub goals_stop : (s : Subject) (d : DeskSeen) (c : Parts) (sig : List ℕ) (stop : Stop) → HasCircuit s d c → HasSignals s d c sig → GoalsCause c sig stop
    → EarlyCause (Goals s) d stop
goals_stop s d c sig stops.Usage has also cause = absurd cause
goals_stop s d c sig (stops.Unreadable f) has also cause = absurd cause
goals_stop s d c sig (stops.TooLong f) has also cause = absurd cause
goals_stop s d c sig (stops.TooLarge measures.Formula) has also cause = absurd cause
goals_stop s d c sig (stops.TooLarge measures.Frames) has also cause = absurd cause
goals_stop s d c sig (stops.TooLarge measures.Walk) has also cause = absurd cause
goals_stop s d c sig (stops.TooLarge measures.Goals) has also cause = (c, sig, has, also, cause)
goals_stop s d c sig (stops.BadCircuit at kind) has also cause = absurd cause
goals_stop s d c sig (stops.BadSignals line kind) has also cause = absurd cause
goals_stop s d c sig (stops.Refused why) has also cause = absurd cause
goals_stop s d c sig stops.CannotWrite has also cause = absurd cause
goals_stop s d c sig stops.OutOfMemory has also cause = λ e. cc
