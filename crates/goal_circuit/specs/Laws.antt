-- Laws of goal circuits.
use Rattle.std.specs.Prelude.{ℕ, ◌+◌, ◌^◌, ◌<◌, ◌≤◌, ◌≡◌, ◌↔◌, List, take, length, get_or, IsTrue}
use Rattle.aig_model.specs.Literal.{value_of}
use Rattle.aig_model.specs.WellFormed.{IsCircuit, limit}
use Rattle.aig_model.specs.SignalList.{IsSignals}
use Rattle.aig_model.specs.Meaning.{Assignment, Fits, Reachable, goal_of}
use Rattle.aig_model.specs.declared.parts.Parts.{Parts}
use Rattle.goal_circuit.specs.GoalCircuit.{goal_gates, goal_parts}

-- The goal circuit is well formed, where it has not too many variables.
abbrev pub GoalIsCircuit : Type 0
GoalIsCircuit = (c : Parts) (sig : List ℕ) → IsCircuit c → IsSignals c sig → c.top + length (goal_gates c sig) ≤ limit → IsCircuit (goal_parts c sig)

-- Bad literal g is true in an assignment that fits the goal circuit exactly where the assignment shows goal g.
abbrev pub BadIsGoal : Type 0
BadIsGoal = (c : Parts) (sig : List ℕ) (a : Assignment) (goal : ℕ) → IsSignals c sig → Fits (goal_parts c sig) a → goal < 2 ^ length sig
    → IsTrue (value_of a (get_or (goal_parts c sig).bads goal 0)) ↔ (goal_of sig a ≡ goal)

-- Each assignment that fits the circuit is the front of one that fits the goal circuit.
abbrev pub FitExtends : Type 0
FitExtends = (c : Parts) (sig : List ℕ) (a : Assignment) → IsCircuit c → IsSignals c sig → Fits c a
    → (b : Assignment) × Fits (goal_parts c sig) b × (take (c.top + 1) b ≡ a)

-- The front of each assignment that fits the goal circuit fits the circuit.
abbrev pub FitRestricts : Type 0
FitRestricts = (c : Parts) (sig : List ℕ) (a : Assignment) → IsCircuit c → IsSignals c sig → Fits (goal_parts c sig) a → Fits c (take (c.top + 1) a)

-- A goal is reachable in the goal circuit exactly where it is in the circuit.
abbrev pub SameReach : Type 0
SameReach = (c : Parts) (sig : List ℕ) (goal : ℕ) → IsCircuit c → IsSignals c sig → Reachable (goal_parts c sig) sig goal ↔ Reachable c sig goal
