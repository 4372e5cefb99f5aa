-- Walks: lanes that are given rows of inputs step by step, and the goals that they visit.
use Rattle.std.specs.Prelude.{◌≡◌, ◌⊎◌, ℕ, ◌+◌, ◌<◌, ◌≤◌, Bool, List, [], length, map, slice_get, get_or, AllPairs, All, Contains, Some}
use Rattle.aig_model.specs.Meaning.{Assignment, Run, input_values, goal_of}
use Rattle.aig_model.specs.declared.parts.Parts.{Parts}
use Rattle.sim_walk.specs.declared.visit.Visit.{Visit}

-- what drives a lane: the state in which it starts, and its row of inputs at each step
pub record Lane : Type 0 where
  pub start : List Bool
  pub row : ℕ → List Bool

-- The lane lives at step t: its assignments 0 to t, which these are, are legal.
pub record Lives (c : Parts) (lane : Lane) (t : ℕ) (frames : List Assignment) : Type 0 where
  pub size : length frames ≡ t + 1
  pub run : Run c lane.start frames
  pub inputs : (u : ℕ) → u ≤ t → input_values c (get_or frames u []) ≡ lane.row u

-- Of the walk of these lanes over so many steps, lane j visits the goal at step t: it lives there, and shows it.
pub record IsVisited (c : Parts) (sig : List ℕ) (lanes : List Lane) (steps j t goal : ℕ) : Type 0 where
  pub near : t < steps
  pub lane : Lane
  pub place : slice_get lanes j ≡ Some lane
  pub frames : List Assignment
  pub lives : Lives c lane t frames
  pub shows : goal_of sig (get_or frames t []) ≡ goal

-- step s and there lane j come before step t and there lane k
abbrev pub IsEarlier : ℕ → ℕ → ℕ → ℕ → Type 0
IsEarlier s j t k = (s < t) ⊎ ((s ≡ t) × (j < k))

-- a goal with the least step at which some lane visits it, and the least lane that does then
pub record IsFirstVisit (c : Parts) (sig : List ℕ) (lanes : List Lane) (steps : ℕ) (v : Visit) : Type 0 where
  pub visited : IsVisited c sig lanes steps v.lane v.step v.goal
  pub least : (j t : ℕ) → IsVisited c sig lanes steps j t v.goal → ¬ IsEarlier t j v.step v.lane

-- the goals that are visited
abbrev pub goals_of : List Visit → List ℕ
goals_of vs = map (λ (v : Visit). v.goal) vs

-- the visits of a walk: each goal that is visited, once, in order of step and lane
pub record AreVisits (c : Parts) (sig : List ℕ) (lanes : List Lane) (steps : ℕ) (vs : List Visit) : Type 0 where
  pub firsts : All (IsFirstVisit c sig lanes steps) vs
  pub whole : (j t goal : ℕ) → IsVisited c sig lanes steps j t goal → Contains (goals_of vs) goal
  pub ordered : AllPairs (λ (v w : Visit). IsEarlier v.step v.lane w.step w.lane) vs
