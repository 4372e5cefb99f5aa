-- The 64 lanes of a batch, as words keep them.
use Rattle.std.specs.Prelude.{◌≡◌, ◌↔◌, ◌⊎◌, ℕ, ◌+◌, ◌^◌, ◌<◌, Bool, Some, IsTrue, if◌then◌else◌, Option, List, map, length, get_or, replicate, slice_get}
use Rattle.std.specs.List.{filter, range_with_len}
use Rattle.aig_model.specs.declared.parts.Parts.{Parts}
use Rattle.sim_walk.specs.declared.visit.Visit.{Visit}
use Rattle.sim_walk.specs.FirstVisits.{JoinsFirst}
use Rattle.sim_walk.specs.Walk.{Lane}
use Rattle.sim_batch.specs.declared.lane_walk.LaneWalk.{LaneWalk}
use Rattle.sim_batch.specs.Batch.{lane_start}
use Rattle.sim_batch.specs.Ends.{IsLastStep}
use Rattle.sim_batch.specs.Seeds.{SeedState}
use Rattle.sim_batch.specs.Steps.{AreGiven, IsAt, ShowsAt, VisitsBefore}
use Rattle.sim_batch.specs.Words.{bit_of_word}
use Rattle.sim_lanes.specs.LaneValues.{lane_goal, lane_values}
use Rattle.sim_lanes.specs.declared.lanes.LaneWords.{LaneWords}
use Rattle.sim_lanes.specs.declared.walked.Walked.{Walked}

-- ---- what words say of lane j after t steps
-- how many of them it lived
abbrev pub lived_of : ℕ → ℕ → List ℕ → ℕ → ℕ
lived_of t live died j = if bit_of_word j live then t else get_or died j 0

-- the goals that are marked for lane j are those that it shows at its first n steps
pub record AreMarked (c : Parts) (sig : List ℕ) (lane : Lane) (n j : ℕ) (seen : List ℕ) : Type 0 where
  pub shown : (goal : ℕ) → IsTrue (bit_of_word j (get_or seen goal 0)) → (u : ℕ) × (u < n) × ShowsAt c sig lane u goal
  pub whole : (u goal : ℕ) → u < n → ShowsAt c sig lane u goal → IsTrue (bit_of_word j (get_or seen goal 0))

-- the words are right about lane j
pub record IsLaneAt (c : Parts) (sig : List ℕ) (lane : Lane) (t j : ℕ) (w : LaneWords) : Type 0 where
  pub at : IsAt c lane t (lived_of t w.live w.died.items j) (lane_values j w.state.items)
  pub before : (n : ℕ) → lived_of t w.live w.died.items j ≡ n + 1 → IsAt c lane n n (lane_values j w.before.items)
  pub dead : ¬ IsTrue (bit_of_word j w.live) → get_or w.died.items j 0 < t
  pub marked : AreMarked c sig lane (lived_of t w.live w.died.items j) j w.seen.items

abbrev pub AreLanesAt : Parts → List ℕ → List Lane → ℕ → LaneWords → Type 0
AreLanesAt c sig lanes t w = (j : ℕ) (lane : Lane) → slice_get lanes j ≡ Some lane → IsLaneAt c sig lane t j w

-- two words a latch, a number a lane, and a mask a goal
pub record AreSized (c : Parts) (sig : List ℕ) (w : LaneWords) : Type 0 where
  pub state : length w.state.items ≡ length c.latches
  pub before : length w.before.items ≡ length c.latches
  pub died : length w.died.items ≡ 64
  pub seen : length w.seen.items ≡ 2 ^ length sig

-- the lanes before their first step, by the words that the start takes: all live, and none visited a goal
pub record IsFirst (c : Parts) (sig : List ℕ) (from : Option SeedState) (words : List ℕ) (w : LaneWords) : Type 0 where
  pub state : (j : ℕ) → j < 64 → lane_values j w.state.items ≡ lane_start c from (λ k. bit_of_word j (get_or words k 0))
  pub live : (j : ℕ) → j < 64 → IsTrue (bit_of_word j w.live)
  pub before : length w.before.items ≡ length c.latches
  pub died : length w.died.items ≡ 64
  pub seen : w.seen.items ≡ replicate (2 ^ length sig) 0

-- ---- one step
-- the lanes of the mask show their goals of these values at step t, and the others show none
pub record ShowsGoal (c : Parts) (sig : List ℕ) (lane : Lane) (t j live : ℕ) (values : List ℕ) : Type 0 where
  pub lives : IsTrue (bit_of_word j live) → ShowsAt c sig lane t (lane_goal sig values j)
  pub dead : ¬ IsTrue (bit_of_word j live) → (goal : ℕ) → ¬ ShowsAt c sig lane t goal

abbrev pub ShowGoals : Parts → List ℕ → List Lane → ℕ → ℕ → List ℕ → Type 0
ShowGoals c sig lanes t live values = (j : ℕ) (lane : Lane) → slice_get lanes j ≡ Some lane → ShowsGoal c sig lane t j live values

-- the goal of lane `visit.lane` is noted, for it and for all lanes of `rest` that show it, if it is in `rest`
pub record NotesLane (sig values : List ℕ) (rest after : ℕ) (visit : Visit) (seen masks : List ℕ) (visits more : List Visit) : Type 0 where
  pub left : (j : ℕ) → j < 64 → IsTrue (bit_of_word j after)
      ↔ (IsTrue (bit_of_word j rest) × ¬ (IsTrue (bit_of_word visit.lane rest) × (lane_goal sig values j ≡ lane_goal sig values visit.lane)))
  pub marked : (j goal : ℕ) → j < 64 → IsTrue (bit_of_word j (get_or masks goal 0)) ↔ (IsTrue (bit_of_word j (get_or seen goal 0))
      ⊎ (IsTrue (bit_of_word j rest) × IsTrue (bit_of_word visit.lane rest) × (lane_goal sig values j ≡ lane_goal sig values visit.lane) × (lane_goal sig values j ≡ goal)))
  pub joins : IsTrue (bit_of_word visit.lane rest) → JoinsFirst visits more (record { goal = lane_goal sig values visit.lane; lane = visit.lane; step = visit.step })
  pub same : ¬ IsTrue (bit_of_word visit.lane rest) → more ≡ visits

-- the goals of all lanes of the mask are marked, and no others
abbrev pub AddsMarks : List ℕ → List ℕ → ℕ → List ℕ → List ℕ → Type 0
AddsMarks sig values live old new = (j goal : ℕ) → j < 64
    → IsTrue (bit_of_word j (get_or new goal 0)) ↔ (IsTrue (bit_of_word j (get_or old goal 0)) ⊎ (IsTrue (bit_of_word j live) × (lane_goal sig values j ≡ goal)))

-- and the visits so far go on by step t
abbrev pub AddsVisits : Parts → List ℕ → List ℕ → ℕ → ℕ → List Visit → List Visit → Type 0
AddsVisits c sig values live t visits more = (lanes : List Lane) → length lanes ≡ 64 → ShowGoals c sig lanes t live values
    → VisitsBefore c sig lanes t 0 visits → VisitsBefore c sig lanes (t + 1) 0 more

-- the lanes and the visits so far go on from step t, whose rows are in these words
abbrev pub LanesStepOn : Parts → List ℕ → List ℕ → ℕ → LaneWords → LaneWords → List Visit → List Visit → Type 0
LanesStepOn c sig words t old new visits more = (lanes : List Lane) → AreGiven words lanes t → AreLanesAt c sig lanes t old → VisitsBefore c sig lanes t 0 visits
    → AreLanesAt c sig lanes (t + 1) new × VisitsBefore c sig lanes (t + 1) 0 more

-- ---- the lanes one by one
abbrev pub marked_visit : ℕ → ℕ → Visit
marked_visit j goal = record { goal = goal; lane = j; step = 0 }

abbrev pub is_marked : ℕ → List ℕ → Visit → Bool
is_marked j seen v = bit_of_word j (get_or seen v.goal 0)

-- the goals that are marked for lane j
abbrev pub marked_goals : ℕ → List ℕ → ℕ → List Visit
marked_goals j seen n = filter (is_marked j seen) (map (marked_visit j) (range_with_len 0 n))

abbrev pub goals_seen : List ℕ → ℕ → ℕ
goals_seen seen j = length (marked_goals j seen (length seen))

-- lane j by itself
abbrev pub lane_walk : ℕ → LaneWords → ℕ → LaneWalk
lane_walk t w j = record {
  state = lane_values j w.state.items;
  lived = lived_of t w.live w.died.items j;
  visits = record { goals = length w.seen.items; visits = marked_goals j w.seen.items (length w.seen.items) };
}

abbrev pub lane_walks : ℕ → LaneWords → List LaneWalk
lane_walks t w = map (lane_walk t w) (range_with_len 0 64)

-- ---- all steps
-- the lanes and the visits after the last step
pub record AreWalked (c : Parts) (sig : List ℕ) (lanes : List Lane) (len stall : ℕ) (w : Walked) : Type 0 where
  pub last : ℕ
  pub steps : w.steps ≡ last + 1
  pub ends : IsLastStep c sig lanes len stall last
  pub sized : AreSized c sig w.lanes
  pub at : AreLanesAt c sig lanes (last + 1) w.lanes
  pub so_far : VisitsBefore c sig lanes (last + 1) 0 w.visits.visits
