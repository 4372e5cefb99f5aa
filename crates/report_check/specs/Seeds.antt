-- The seeds of the batches.
use Rattle.std.specs.Prelude.{◌≡◌, ℕ, Bool, List, length, map, slice_get, All, Some}
use Rattle.aig_model.specs.Meaning.{Assignment, IsReset, IsLegal, Path, input_values, state_after}
use Rattle.aig_model.specs.declared.parts.Parts.{Parts}
use Rattle.report_text.specs.declared.report.SeedLine.{SeedLine}
use Rattle.report_text.specs.declared.report.Report.{Report}
use Rattle.report_check.specs.declared.fault.CheckKind.{CheckKind}
use Rattle.report_check.specs.declared.fault.CheckKind.TheVariants as kinds

-- From the start the rows lead to the state, and every constraint is true at each row. (No rows lead to the start.)
pub record LeadsTo (c : Parts) (start : List Bool) (rows : List (List Bool)) (state : List Bool) : Type 0 where
  pub frames : List Assignment
  pub path : Path c start frames
  pub inputs : map (input_values c) frames ≡ rows
  pub legal : All (IsLegal c) frames
  pub ends : state_after c start frames ≡ state

-- the start is a reset state, and the rows lead to the state
pub record IsSeed (c : Parts) (line : SeedLine) : Type 0 where
  pub reset : IsReset c line.start
  pub leads : LeadsTo c line.start line.rows.rows line.state

-- the conditions of the seeds
pub record SeedsMeet (c : Parts) (r : Report) (at : ℕ) (kind : CheckKind) : Type 0 where
  pub count : at ≡ 0 → kind ≡ kinds.Count → length r.seeds ≡ r.options.batches
  pub trace : kind ≡ kinds.Trace → (line : SeedLine) → slice_get r.seeds at ≡ Some (Some line) → IsSeed c line
