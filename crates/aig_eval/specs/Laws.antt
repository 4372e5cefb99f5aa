-- What evaluation shows of the meaning of circuits.
use Rattle.std.specs.Prelude.{ℕ, ◌+◌, ◌≡◌, Bool, List, map, length, All}
use Rattle.aig_model.specs.WellFormed.{IsCircuit}
use Rattle.aig_model.specs.Meaning.{Assignment, IsStep, Path, At, Reachable, input_values}
use Rattle.aig_model.specs.Replays.{Shows}
use Rattle.aig_model.specs.declared.parts.Parts.{Parts}
use Rattle.aig_model.specs.declared.trace.Trace.{Trace}

-- Some assignment fits a state and a row of inputs.
abbrev pub SomeStep : Type 0
SomeStep = (c : Parts) (state row : List Bool) → IsCircuit c → length state ≡ length c.latches → length row ≡ length c.inputs
    → (a : Assignment) × IsStep c state row a

-- A start and rows of inputs have a path.
abbrev pub SomePath : Type 0
SomePath = (c : Parts) (state : List Bool) (rows : List (List Bool)) → IsCircuit c → length state ≡ length c.latches
    → All (λ row. length row ≡ length c.inputs) rows → (frames : List Assignment) × Path c state frames × (map (input_values c) frames ≡ rows)

-- What a trace shows is reachable.
abbrev pub ShownIsReachable : Type 0
ShownIsReachable = (c : Parts) (sig : List ℕ) (trace : Trace) (goal : ℕ) → Shows c sig trace goal → Reachable c sig goal

-- A trace shows no second goal.
abbrev pub ShownOnce : Type 0
ShownOnce = (c : Parts) (sig : List ℕ) (trace : Trace) (goal other : ℕ) → IsCircuit c → Shows c sig trace goal → Shows c sig trace other → goal ≡ other

-- A trace of t + 1 rows shows its goal at step t from its start.
abbrev pub ShownAt : Type 0
ShownAt = (c : Parts) (sig : List ℕ) (trace : Trace) (t goal : ℕ) → length trace.rows.rows ≡ t + 1 → Shows c sig trace goal
    → At c sig trace.start t goal
