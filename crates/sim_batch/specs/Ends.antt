-- How long a batch lasts.
use Rattle.std.specs.Prelude.{◌≡◌, ◌⊎◌, ℕ, ◌+◌, ◌<◌, ◌≤◌, List, Some, slice_get}
use Rattle.ketch_base.specs.First.{IsFirst}
use Rattle.aig_model.specs.Meaning.{Assignment}
use Rattle.aig_model.specs.declared.parts.Parts.{Parts}
use Rattle.sim_walk.specs.Walk.{Lane, Lives, IsVisited}

-- some lane lives at step t
pub record LivesSome (c : Parts) (lanes : List Lane) (t : ℕ) : Type 0 where
  pub j : ℕ
  pub lane : Lane
  pub place : slice_get lanes j ≡ Some lane
  pub frames : List Assignment
  pub lives : Lives c lane t frames

-- at step t a living lane shows a goal that no living lane showed before
pub record IsNewStep (c : Parts) (sig : List ℕ) (lanes : List Lane) (t : ℕ) : Type 0 where
  pub j : ℕ
  pub goal : ℕ
  pub visited : IsVisited c sig lanes (t + 1) j t goal
  pub new : (k s : ℕ) → s < t → ¬ IsVisited c sig lanes t k s goal

-- there are `stall` steps up to t, and the last `stall` of them aren't new
pub record IsStalled (c : Parts) (sig : List ℕ) (lanes : List Lane) (stall t : ℕ) : Type 0 where
  pub enough : stall ≤ t + 1
  pub old : (s : ℕ) → s ≤ t → t < s + stall → ¬ IsNewStep c sig lanes s

-- a batch is over after step t: no lane lives at t, or it is stalled
abbrev pub IsOver : Parts → List ℕ → List Lane → ℕ → ℕ → Type 0
IsOver c sig lanes stall t = (¬ LivesSome c lanes t) ⊎ IsStalled c sig lanes stall t

-- it may end there where it is over, or the length is reached
abbrev pub MayEnd : Parts → List ℕ → List Lane → ℕ → ℕ → ℕ → Type 0
MayEnd c sig lanes len stall t = (t + 1 ≡ len) ⊎ IsOver c sig lanes stall t

-- it ends after the first such step
abbrev pub IsLastStep : Parts → List ℕ → List Lane → ℕ → ℕ → ℕ → Type 0
IsLastStep c sig lanes len stall t = IsFirst (MayEnd c sig lanes len stall) t
