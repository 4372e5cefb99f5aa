-- What a batch ends with: its visits, and the seed of its best lane.
use Rattle.std.specs.Prelude.{◌≡◌, ◌≢◌, ℕ, ◌+◌, ◌<◌, ◌≤◌, Option, None, Some, List, length, slice_get, AllPairs, Contains, ◌++◌}
use Rattle.aig_model.specs.declared.parts.Parts.{Parts}
use Rattle.sim_walk.specs.Walk.{Lane, IsVisited, IsFirstVisit, AreVisits}
use Rattle.sim_walk.specs.declared.visit.Visit.{Visit}
use Rattle.sim_batch.specs.Batch.{first_start, first_rows, lane_rows}
use Rattle.sim_batch.specs.Ends.{IsLastStep}
use Rattle.sim_batch.specs.Seeds.{SeedState, IsSeed}

-- the goals that lane j visits, each once
pub record AreGoalsOf (c : Parts) (sig : List ℕ) (lanes : List Lane) (steps j : ℕ) (goals : List ℕ) : Type 0 where
  pub distinct : AllPairs (λ g h. g ≢ h) goals
  pub visited : (goal : ℕ) → Contains goals goal → (t : ℕ) × IsVisited c sig lanes steps j t goal
  pub whole : (t goal : ℕ) → IsVisited c sig lanes steps j t goal → Contains goals goal

-- no lane visits more goals than lane j, and no earlier lane as many
pub record IsBestLane (c : Parts) (sig : List ℕ) (lanes : List Lane) (steps j : ℕ) : Type 0 where
  pub goals : List ℕ
  pub own : AreGoalsOf c sig lanes steps j goals
  pub most : (k : ℕ) (others : List ℕ) → AreGoalsOf c sig lanes steps k others → length others ≤ length goals
  pub least : (k : ℕ) (others : List ℕ) → k < j → AreGoalsOf c sig lanes steps k others → length others < length goals

-- step t is the last one that lane j visits
pub record IsLastVisit (c : Parts) (sig : List ℕ) (lanes : List Lane) (steps j t : ℕ) : Type 0 where
  pub goal : ℕ
  pub visited : IsVisited c sig lanes steps j t goal
  pub last : (s other : ℕ) → IsVisited c sig lanes steps j s other → s ≤ t

-- lane j visits a goal of some signals at step t
pub record VisitsSome (c : Parts) (lanes : List Lane) (j t : ℕ) : Type 0 where
  pub signals : List ℕ
  pub steps : ℕ
  pub goal : ℕ
  pub visited : IsVisited c signals lanes steps j t goal

-- The seed is where lane j is at step t: its rows are a seed's to the lane's start, and then the lane's before that step. (What a
-- seed is says that they lead to its state.)
pub record IsSeedAt (c : Parts) (from : Option SeedState) (lanes : List Lane) (j t : ℕ) (seed : SeedState) : Type 0 where
  pub lane : Lane
  pub place : slice_get lanes j ≡ Some lane
  pub circuit : seed.circuit ≡ c
  pub start : seed.start ≡ first_start from lane.start
  pub rows : seed.rows.rows ≡ first_rows from ++ lane_rows lane t
  pub holds : IsSeed seed.circuit seed.start seed.rows seed.state

-- the seed is where the best lane is at its last visited step
pub record IsSeedOf (c : Parts) (sig : List ℕ) (from : Option SeedState) (lanes : List Lane) (steps : ℕ) (seed : SeedState) : Type 0 where
  pub j : ℕ
  pub best : IsBestLane c sig lanes steps j
  pub t : ℕ
  pub last : IsLastVisit c sig lanes steps j t
  pub seed_at : IsSeedAt c from lanes j t seed

-- no lane visits a step
abbrev pub NoneVisits : Parts → List ℕ → List Lane → ℕ → Type 0
NoneVisits c sig lanes steps = (j t goal : ℕ) → ¬ IsVisited c sig lanes steps j t goal

-- a batch has a seed, except where no lane visits a step
abbrev pub IsBatchSeed : Parts → List ℕ → Option SeedState → List Lane → ℕ → Option SeedState → Type 0
IsBatchSeed c sig from lanes steps None = NoneVisits c sig lanes steps
IsBatchSeed c sig from lanes steps (Some seed) = IsSeedOf c sig from lanes steps seed

-- a visit of the batch of these lanes
pub record IsBatchVisit (c : Parts) (sig : List ℕ) (lanes : List Lane) (len stall : ℕ) (visit : Visit) : Type 0 where
  pub last : ℕ
  pub ends : IsLastStep c sig lanes len stall last
  pub first : IsFirstVisit c sig lanes (last + 1) visit

-- what the batch of these lanes ends with
pub record IsBatch (c : Parts) (sig : List ℕ) (from : Option SeedState) (lanes : List Lane) (len stall : ℕ) (visits : List Visit) (seed : Option SeedState) : Type 0 where
  pub last : ℕ
  pub ends : IsLastStep c sig lanes len stall last
  pub are_visits : AreVisits c sig lanes (last + 1) visits
  pub is_seed : IsBatchSeed c sig from lanes (last + 1) seed
