-- Laws of what a circuit means.
use Rattle.std.specs.Prelude.{ℕ, ◌+◌, ◌^◌, ◌<◌, ◌≤◌, ◌≡◌, ◌↔◌, Bool, ℤ, List, [], ◌∷◌, ◌++◌, map, take, drop, length, get_or, All, Contains, IsTrue, slice_get, Some}
use Rattle.aig_model.specs.WellFormed.{IsCircuit}
use Rattle.aig_model.specs.Meaning.{Assignment, Fits, IsLegal, IsStep, IsReset, Path, Run, At, Reachable, GoalOf, goal_of, input_values, latch_values, state_after}
use Rattle.aig_model.specs.Replays.{Shows}
use Rattle.aig_model.specs.LatchClauses.{Bars}
use Rattle.aig_model.specs.Dependence.{Meets, DependsOnLatch}
use Rattle.aig_model.specs.declared.parts.Latch.{Latch}
use Rattle.aig_model.specs.declared.parts.Parts.{Parts}
use Rattle.aig_model.specs.declared.trace.Trace.{Trace}

-- ---- circuits
-- Inputs, latches and gates define different variables from 1 to the greatest.
abbrev pub DefinersWithinTop : Type 0
DefinersWithinTop = (c : Parts) → IsCircuit c → length c.inputs + length c.latches + length c.gates ≤ c.top

-- at most one assignment fits a circuit, a state and a row of inputs
abbrev pub OneAssignment : Type 0
OneAssignment = (c : Parts) (s r : List Bool) (a b : Assignment) → IsCircuit c → IsStep c s r a → IsStep c s r b → a ≡ b

-- ---- goals
-- an assignment shows one goal and no other: the sum of the signals' weights
abbrev pub OneGoal : Type 0
OneGoal = (sig : List ℕ) (a : Assignment) (goal : ℕ) → GoalOf sig a goal ↔ (goal ≡ goal_of sig a)

-- A goal is below 2 to the number of signals.
abbrev pub GoalBelow : Type 0
GoalBelow = (sig : List ℕ) (a : Assignment) → goal_of sig a < 2 ^ length sig

-- ---- paths
-- A start and rows of inputs have no second path.
abbrev pub OnePath : Type 0
OnePath = (c : Parts) (state : List Bool) (frames others : List Assignment) → IsCircuit c → Path c state frames → Path c state others
    → map (input_values c) frames ≡ map (input_values c) others → frames ≡ others

-- The latches of frame n hold the state after the first n frames.
abbrev pub PathLatches : Type 0
PathLatches = (c : Parts) (state : List Bool) (frames : List Assignment) (n : ℕ) → Path c state frames → n < length frames
    → latch_values c (get_or frames n []) ≡ state_after c state (take n frames)

-- The first frames of a path are a path.
abbrev pub PathFront : Type 0
PathFront = (c : Parts) (state : List Bool) (frames : List Assignment) (n : ℕ) → Path c state frames → Path c state (take n frames)

-- The later frames of a path are a path from the state that those before them hand on.
abbrev pub PathEnd : Type 0
PathEnd = (c : Parts) (state : List Bool) (frames : List Assignment) (n : ℕ) → Path c state frames
    → Path c (state_after c state (take n frames)) (drop n frames)

-- A path goes on with any path from the state that it hands on.
abbrev pub PathAppend : Type 0
PathAppend = (c : Parts) (state : List Bool) (frames more : List Assignment) → Path c state frames → Path c (state_after c state frames) more
    → Path c state (frames ++ more)

-- A path grows by an assignment that fits the state that it hands on.
abbrev pub PathPush : Type 0
PathPush = (c : Parts) (state : List Bool) (frames : List Assignment) (a : Assignment) → Path c state frames → Fits c a
    → latch_values c a ≡ state_after c state frames → Path c state (frames ++ a ∷ [])

-- Frames hand on what the later ones hand on after the earlier ones.
abbrev pub StateAfterAppend : Type 0
StateAfterAppend = (c : Parts) (state : List Bool) (frames more : List Assignment)
    → state_after c state (frames ++ more) ≡ state_after c (state_after c state frames) more

-- ---- runs
-- The first n + 1 frames of a run are a run.
abbrev pub RunFront : Type 0
RunFront = (c : Parts) (state : List Bool) (frames : List Assignment) (n : ℕ) → Run c state frames → Run c state (take (n + 1) frames)

-- From frame n on a run is a run from the latches of frame n.
abbrev pub RunEnd : Type 0
RunEnd = (c : Parts) (state : List Bool) (frames : List Assignment) (n : ℕ) → Run c state frames → n < length frames
    → Run c (latch_values c (get_or frames n [])) (drop n frames)

-- Legal frames of a path, maybe none, go on with a run from the state that they hand on.
abbrev pub RunAppend : Type 0
RunAppend = (c : Parts) (state : List Bool) (frames more : List Assignment) → Path c state frames → All (IsLegal c) frames
    → Run c (state_after c state frames) more → Run c state (frames ++ more)

-- Legal frames of a path, maybe none, go on with a legal assignment that fits the state that they hand on.
abbrev pub RunPush : Type 0
RunPush = (c : Parts) (state : List Bool) (frames : List Assignment) (a : Assignment) → Path c state frames → All (IsLegal c) frames → Fits c a
    → latch_values c a ≡ state_after c state frames → IsLegal c a → Run c state (frames ++ a ∷ [])

-- Each step of a run shows the goal of its assignment.
abbrev pub AtStep : Type 0
AtStep = (c : Parts) (sig : List ℕ) (state : List Bool) (frames : List Assignment) (t : ℕ) → Run c state frames → t < length frames
    → At c sig state t (goal_of sig (get_or frames t []))

-- What is shown from the state that legal frames of a path, maybe none, hand on is shown from their start, so many steps later.
abbrev pub AtAfter : Type 0
AtAfter = (c : Parts) (sig : List ℕ) (state : List Bool) (frames : List Assignment) (t goal : ℕ) → Path c state frames → All (IsLegal c) frames
    → At c sig (state_after c state frames) t goal → At c sig state (length frames + t) goal

-- The trace of a run from reset up to a step shows the goal of that step.
abbrev pub ShownByRun : Type 0
ShownByRun = (c : Parts) (sig : List ℕ) (trace : Trace) (frames : List Assignment) (t : ℕ) → IsReset c trace.start
    → trace.rows.width ≡ length c.inputs → Run c trace.start frames → t < length frames
    → trace.rows.rows ≡ take (t + 1) (map (input_values c) frames) → Shows c sig trace (goal_of sig (get_or frames t []))

-- ---- clauses over latches
-- A goal that clauses bar is not reachable.
abbrev pub BarredIsUnreachable : Type 0
BarredIsUnreachable = (c : Parts) (sig : List ℕ) (clauses : List (List ℤ)) (goal : ℕ) → Bars c sig clauses goal → ¬ Reachable c sig goal

-- ---- dependence
-- The latches on which literals depend are in each set that holds the latches that these literals meet, and those
-- that the next literals of its own latches meet.
abbrev pub LeastDependence : Type 0
LeastDependence = (c : Parts) (lits : List ℕ) (in_set : ℕ → Bool)
    → ((lit k : ℕ) → Contains lits lit → Meets c lit k → IsTrue (in_set k))
    → ((j k : ℕ) (l : Latch) → IsTrue (in_set j) → slice_get c.latches j ≡ Some l → Meets c l.next k → IsTrue (in_set k))
    → (k : ℕ) → DependsOnLatch c lits k → IsTrue (in_set k)
