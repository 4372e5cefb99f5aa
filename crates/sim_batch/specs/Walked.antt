-- What the lanes of a batch come to.
use Rattle.std.specs.Prelude.{◌≡◌, ℕ, ◌+◌, List, length}
use Rattle.aig_model.specs.declared.parts.Parts.{Parts}
use Rattle.sim_walk.specs.Walk.{Lane}
use Rattle.sim_batch.specs.declared.walked.Walked.{Walked}
use Rattle.sim_batch.specs.Ends.{IsLastStep}
use Rattle.sim_batch.specs.Steps.{AreWalks, VisitsBefore}

-- the lanes and the visits after the last step
pub record IsWalked (c : Parts) (sig : List ℕ) (lanes : List Lane) (len stall : ℕ) (w : Walked) : Type 0 where
  pub last : ℕ
  pub ends : IsLastStep c sig lanes len stall last
  pub size : length w.lanes.items ≡ 64
  pub walks : AreWalks c sig lanes (last + 1) w.lanes.items
  pub so_far : VisitsBefore c sig lanes (last + 1) 0 w.visits.visits
