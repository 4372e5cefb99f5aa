-- A lane's way through its first steps, and where it leads.
use Rattle.std.specs.Prelude.{◌≡◌, ℕ, Bool, Option, Some, List, ◌++◌, length, slice_get}
use Rattle.aig_model.specs.declared.parts.Parts.{Parts}
use Rattle.aig_model.specs.declared.trace.Trace.{Trace}
use Rattle.sim_walk.specs.Walk.{Lane}
use Rattle.sim_batch.specs.Batch.{first_start, first_rows, lane_rows}
use Rattle.sim_batch.specs.Seeds.{SeedState}
use Rattle.sim_batch.specs.Steps.{IsAt}

-- lane j's way through its first `count` steps, whole from reset: a seed's rows, and then the lane's
pub record IsLaneWay (c : Parts) (from : Option SeedState) (lanes : List Lane) (j count : ℕ) (way : Trace) : Type 0 where
  pub lane : Lane
  pub place : slice_get lanes j ≡ Some lane
  pub start : way.start ≡ first_start from lane.start
  pub width : way.rows.width ≡ length c.inputs
  pub rows : way.rows.rows ≡ first_rows from ++ lane_rows lane count

-- lane j lived at its first `count` steps, which led to this state
pub record IsLaneAfter (c : Parts) (lanes : List Lane) (j count : ℕ) (state : List Bool) : Type 0 where
  pub lane : Lane
  pub place : slice_get lanes j ≡ Some lane
  pub at : IsAt c lane count count state
