-- Traces that replay from reset.
use Rattle.std.specs.Prelude.{ℕ, ◌-◌, ◌≡◌, List, [], map, length, get_or}
use Rattle.aig_model.specs.Meaning.{Assignment, IsReset, Run, input_values, goal_of}
use Rattle.aig_model.specs.declared.parts.Parts.{Parts}
use Rattle.aig_model.specs.declared.trace.Trace.{Trace}

-- The start is a reset state, and the assignments with this start, these rows of inputs and each
-- next state are a run (so there is a row), whose last one shows the goal.
pub record Shows (c : Parts) (sig : List ℕ) (trace : Trace) (goal : ℕ) : Type 0 where
  pub reset : IsReset c trace.start
  pub width : trace.rows.width ≡ length c.inputs
  pub frames : List Assignment
  pub rows : map (input_values c) frames ≡ trace.rows.rows
  pub run : Run c trace.start frames
  pub shows : goal_of sig (get_or frames (length frames - 1) []) ≡ goal
