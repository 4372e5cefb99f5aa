-- Seeds: states that are reached from reset, with the way there.
use Rattle.std.specs.Prelude.{◌≡◌, ℕ, ◌-◌, Bool, Option, None, Some, List, length, map, take, All}
use Rattle.aig_model.specs.Meaning.{Assignment, IsReset, IsLegal, Path, input_values, state_after}
use Rattle.aig_model.specs.Table.{Table}
use Rattle.aig_model.specs.Replays.{Shows}
use Rattle.aig_model.specs.declared.parts.Parts.{Parts}
use Rattle.aig_model.specs.declared.trace.Trace.{Trace}

-- a state of a circuit, and the start and the rows of inputs that lead there
pub record SeedState : Type 0 where
  pub circuit : Parts
  pub start : List Bool
  pub rows : Table
  pub state : List Bool

-- The start is a reset state. From there the rows lead to the state, and all constraints are true at each row. (With no rows the
-- state is the start.)
pub record IsSeed (c : Parts) (start : List Bool) (rows : Table) (state : List Bool) : Type 0 where
  pub reset : IsReset c start
  pub width : rows.width ≡ length c.inputs
  pub frames : List Assignment
  pub inputs : map (input_values c) frames ≡ rows.rows
  pub path : Path c start frames
  pub legal : All (IsLegal c) frames
  pub leads : state ≡ state_after c start frames

-- what a seed's type says, if there is a seed
abbrev pub AreSeeds : Option SeedState → Type 0
AreSeeds None = Unit {0}
AreSeeds (Some s) = IsSeed s.circuit s.start s.rows s.state

-- the trace shows some goal of some signals
pub record ShowsSome (c : Parts) (trace : Trace) : Type 0 where
  pub signals : List ℕ
  pub goal : ℕ
  pub shows : Shows c signals trace goal

-- the rows before a trace's last one
abbrev pub rows_before_last : Trace → Table
rows_before_last trace = record { width = trace.rows.width; rows = take (length trace.rows.rows - 1) trace.rows.rows }

-- along each path of the trace's rows, the first `count` of them lead to this state
abbrev pub LeadsTo : Parts → Trace → ℕ → List Bool → Type 0
LeadsTo c trace count state = (frames : List Assignment) → map (input_values c) frames ≡ trace.rows.rows → Path c trace.start frames
    → state ≡ state_after c trace.start (take count frames)
