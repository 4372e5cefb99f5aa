-- What the contracts of one step of a batch's lanes cite.
use Rattle.std.specs.Prelude.{◌≡◌, ◌≢◌, ℕ, ◌+◌, ◌^◌, ◌<◌, ◌≤◌, Bool, Option, None, Some, List, [], length, map, get_or, slice_get, All, AllPairs, Contains}
use Rattle.aig_model.specs.Meaning.{Assignment, IsStep, IsLegal, Path, input_values, next_values, state_after, goal_of}
use Rattle.aig_model.specs.declared.parts.Parts.{Parts}
use Rattle.sim_batch.specs.declared.lane_walk.LaneWalk.{LaneWalk}
use Rattle.sim_batch.specs.Batch.{lane_start}
use Rattle.sim_batch.specs.Seeds.{SeedState}
use Rattle.sim_batch.specs.Words.{bit_of_word}
use Rattle.sim_walk.specs.declared.visit.Visit.{Visit}
use Rattle.sim_walk.specs.Walk.{Lane, Lives, goals_of, IsEarlier}

-- the lane lives at step t and shows the goal there
pub record ShowsAt (c : Parts) (sig : List ℕ) (lane : Lane) (t goal : ℕ) : Type 0 where
  pub frames : List Assignment
  pub lives : Lives c lane t frames
  pub shows : goal_of sig (get_or frames t []) ≡ goal

-- of t steps the lane lived at the first `lived`, which led to the state, and at no others
pub record IsAt (c : Parts) (lane : Lane) (t lived : ℕ) (state : List Bool) : Type 0 where
  pub frames : List Assignment
  pub size : length frames ≡ lived
  pub path : Path c lane.start frames
  pub inputs : (u : ℕ) → u < lived → input_values c (get_or frames u []) ≡ lane.row u
  pub legal : All (IsLegal c) frames
  pub leads : state ≡ state_after c lane.start frames
  pub near : lived ≤ t
  pub ends : lived < t → (others : List Assignment) → ¬ Lives c lane lived others

-- the goal that a step from this state and row shows where it is legal, and the state that it leads to
abbrev pub StepGives : Parts → List ℕ → List Bool → Assignment → List Bool → Option ℕ → Type 0
StepGives c sig state a new None = (¬ IsLegal c a) × (new ≡ state)
StepGives c sig state a new (Some goal) = IsLegal c a × (goal ≡ goal_of sig a) × (new ≡ next_values c a)

pub record Advances (c : Parts) (sig : List ℕ) (state row new : List Bool) (answer : Option ℕ) : Type 0 where
  pub values : Assignment
  pub step : IsStep c state row values
  pub gives : StepGives c sig state values new answer

-- these visits are of the goals that the lane shows at its first n steps
pub record HasGoals (c : Parts) (sig : List ℕ) (lane : Lane) (n : ℕ) (vs : List Visit) : Type 0 where
  pub distinct : AllPairs (λ g h. g ≢ h) (goals_of vs)
  pub shown : (goal : ℕ) → Contains (goals_of vs) goal → (u : ℕ) × (u < n) × ShowsAt c sig lane u goal
  pub whole : (u goal : ℕ) → u < n → ShowsAt c sig lane u goal → Contains (goals_of vs) goal

-- some lane shows the goal at step t
pub record SomeShows (c : Parts) (sig : List ℕ) (lanes : List Lane) (j t goal : ℕ) : Type 0 where
  pub lane : Lane
  pub place : slice_get lanes j ≡ Some lane
  pub shows : ShowsAt c sig lane t goal

-- a visit that comes before step t and there lane j, and of its goal the first
pub record IsFirstBefore (c : Parts) (sig : List ℕ) (lanes : List Lane) (t j : ℕ) (v : Visit) : Type 0 where
  pub visited : SomeShows c sig lanes v.lane v.step v.goal
  pub near : IsEarlier v.step v.lane t j
  pub least : (k s : ℕ) → SomeShows c sig lanes k s v.goal → ¬ IsEarlier s k v.step v.lane

-- the visits before step t and there lane j
pub record VisitsBefore (c : Parts) (sig : List ℕ) (lanes : List Lane) (t j : ℕ) (vs : List Visit) : Type 0 where
  pub firsts : All (IsFirstBefore c sig lanes t j) vs
  pub whole : (k s goal : ℕ) → SomeShows c sig lanes k s goal → IsEarlier s k t j → Contains (goals_of vs) goal
  pub ordered : AllPairs (λ (v w : Visit). IsEarlier v.step v.lane w.step w.lane) vs

-- ---- a lane as the code keeps it
-- a lane that has gone t steps
pub record IsLaneWalk (c : Parts) (sig : List ℕ) (lane : Lane) (t : ℕ) (w : LaneWalk) : Type 0 where
  pub at : IsAt c lane t w.lived w.state
  pub goals : w.visits.goals ≡ 2 ^ length sig
  pub has : HasGoals c sig lane w.lived w.visits.visits

-- it can take a step
pub record IsReady (c : Parts) (sig : List ℕ) (t : ℕ) (w : LaneWalk) : Type 0 where
  pub state : length w.state ≡ length c.latches
  pub goals : w.visits.goals ≡ 2 ^ length sig
  pub lived : w.lived ≤ t
  pub room : t + 1 < 2 ^ 32

-- lane j goes on from step t by its bits of these words
abbrev pub WalksOn : Parts → List ℕ → List ℕ → ℕ → ℕ → LaneWalk → LaneWalk → Type 0
WalksOn c sig words j t old new = (lane : Lane) → lane.row t ≡ map (bit_of_word j) words → IsLaneWalk c sig lane t old → IsLaneWalk c sig lane (t + 1) new

-- and the visits so far hold what it shows there
abbrev pub Notes : Parts → List ℕ → List ℕ → ℕ → ℕ → LaneWalk → List Visit → List Visit → Type 0
Notes c sig words j t old visits more = (lanes : List Lane) (lane : Lane) → slice_get lanes j ≡ Some lane → lane.row t ≡ map (bit_of_word j) words
    → IsLaneWalk c sig lane t old → VisitsBefore c sig lanes t j visits → VisitsBefore c sig lanes t (j + 1) more

-- ---- all lanes
-- the rows of the lanes at step t are their bits of these words
pub record AreGiven (words : List ℕ) (lanes : List Lane) (t : ℕ) : Type 0 where
  pub size : length lanes ≡ 64
  pub rows : (j : ℕ) (lane : Lane) → slice_get lanes j ≡ Some lane → lane.row t ≡ map (bit_of_word j) words

-- each lane has gone t steps
abbrev pub AreWalks : Parts → List ℕ → List Lane → ℕ → List LaneWalk → Type 0
AreWalks c sig lanes t walks = (j : ℕ) (lane : Lane) (w : LaneWalk) → slice_get lanes j ≡ Some lane → IsLaneWalk c sig lane t (get_or walks j w)

-- the lanes and the visits so far go on from step t
abbrev pub StepsOn : Parts → List ℕ → List ℕ → ℕ → List LaneWalk → List LaneWalk → List Visit → List Visit → Type 0
StepsOn c sig words t old new visits more = (lanes : List Lane) → AreGiven words lanes t → AreWalks c sig lanes t old → VisitsBefore c sig lanes t 0 visits
    → AreWalks c sig lanes (t + 1) new × VisitsBefore c sig lanes (t + 1) 0 more

-- a lane before its first step
abbrev pub first_walk : Parts → List ℕ → Option SeedState → List ℕ → ℕ → LaneWalk
first_walk c sig from words j = record {
  state = lane_start c from (λ k. bit_of_word j (get_or words k 0));
  lived = 0;
  visits = record { goals = 2 ^ length sig; visits = [] };
}

-- how many goals a lane visited
abbrev pub goal_count : LaneWalk → ℕ
goal_count w = length w.visits.visits

-- the lanes have gone some steps
pub record HaveWalked (c : Parts) (sig : List ℕ) (lanes : List Lane) (walks : List LaneWalk) : Type 0 where
  pub steps : ℕ
  pub size : length walks ≡ 64
  pub walks_are : AreWalks c sig lanes steps walks
