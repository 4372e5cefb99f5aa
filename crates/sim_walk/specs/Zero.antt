-- The zero walk: one lane, from reset, with all inputs and all free latches 0.
use Rattle.std.specs.Prelude.{◌≡◌, ℕ, ◌+◌, Bool, true, false, List, [], ◌∷◌, length, map, replicate}
use Rattle.aig_model.specs.Replays.{Shows}
use Rattle.aig_model.specs.declared.parts.Parts.{Parts}
use Rattle.aig_model.specs.declared.parts.Latch.{Latch}
use Rattle.aig_model.specs.declared.parts.Reset.{Reset}
use Rattle.aig_model.specs.declared.parts.Reset.TheVariants.{Zero, One, Free}
use Rattle.aig_model.specs.declared.trace.Trace.{Trace}
use Rattle.sim_walk.specs.declared.visit.Visit.{Visit}
use Rattle.sim_walk.specs.Walk.{Lane, IsVisited, AreVisits}

abbrev pub first_value : Reset → Bool
first_value Zero = false
first_value One = true
first_value Free = false

-- the reset state in which the free latches are 0
abbrev pub zero_state : Parts → List Bool
zero_state c = map (λ (l : Latch). first_value l.reset) c.latches

abbrev pub zero_row : Parts → List Bool
zero_row c = replicate (length c.inputs) false

abbrev pub zero_lane : Parts → Lane
zero_lane c = record { start = zero_state c; row = λ _. zero_row c }

abbrev pub zero_lanes : Parts → List Lane
zero_lanes c = zero_lane c ∷ []

-- the visits of the zero walk of so many steps
abbrev pub AreZeroVisits : Parts → List ℕ → ℕ → List Visit → Type 0
AreZeroVisits c sig steps vs = AreVisits c sig (zero_lanes c) steps vs

-- the zero walk visits the goal
abbrev pub IsZeroVisited : Parts → List ℕ → ℕ → ℕ → Type 0
IsZeroVisited c sig steps goal = (j t : ℕ) × IsVisited c sig (zero_lanes c) steps j t goal

-- it visits some goal at step t
abbrev pub VisitsAt : Parts → List ℕ → ℕ → ℕ → Type 0
VisitsAt c sig steps t = (j goal : ℕ) × IsVisited c sig (zero_lanes c) steps j t goal

-- the trace shows what it visits at step t
abbrev pub ShowsVisit : Parts → List ℕ → ℕ → ℕ → Trace → Type 0
ShowsVisit c sig steps t trace = (j goal : ℕ) → IsVisited c sig (zero_lanes c) steps j t goal → Shows c sig trace goal

-- the start of the walk, and its rows up to step t
pub record IsZeroTrace (c : Parts) (t : ℕ) (trace : Trace) : Type 0 where
  pub start : trace.start ≡ zero_state c
  pub width : trace.rows.width ≡ length c.inputs
  pub rows : trace.rows.rows ≡ replicate (t + 1) (zero_row c)
