-- What a circuit means: assignments that fit it, runs, and the goals that they show.
use Rattle.std.specs.Prelude.{ℕ, ◌+◌, ◌*◌, ◌^◌, ◌<◌, ◌≤◌, ◌≡◌, Bool, true, false, ◌&&◌, List, [], ◌∷◌, map, length, get_or, All, Contains, IsTrue}
use Rattle.std.specs.Int.{bit_at}
use Rattle.aig_model.specs.Literal.{value_of, number}
use Rattle.aig_model.specs.WellFormed.{latch_lits, next_lits, defined}
use Rattle.aig_model.specs.declared.parts.Latch.{Latch}
use Rattle.aig_model.specs.declared.parts.AndGate.{AndGate}
use Rattle.aig_model.specs.declared.parts.Parts.{Parts}
use Rattle.aig_model.specs.declared.parts.Reset.{Reset}
use Rattle.aig_model.specs.declared.parts.Reset.TheVariants.{Zero, One, Free}

-- an assignment is the list of the variables' values
abbrev pub Assignment : Type 0
Assignment = List Bool

-- the values of the inputs, in their order
abbrev pub input_values : Parts → Assignment → List Bool
input_values c a = map (value_of a) c.inputs

-- the state: the values of the latches, in their order
abbrev pub latch_values : Parts → Assignment → List Bool
latch_values c a = map (value_of a) (latch_lits c.latches)

-- the state that an assignment hands on
abbrev pub next_values : Parts → Assignment → List Bool
next_values c a = map (value_of a) (next_lits c.latches)

-- the left side is the conjunction of the two inputs
abbrev pub IsConjunction : Assignment → AndGate → Type 0
IsConjunction a g = value_of a g.lhs ≡ (value_of a g.left && value_of a g.right)

-- The assignment solves the circuit's equations; variable 0 and each variable that nothing defines are false.
pub record Fits (c : Parts) (a : Assignment) : Type 0 where
  pub size : length a ≡ c.top + 1
  pub constant : get_or a 0 false ≡ false
  pub undefined : (v : ℕ) → ¬ Contains (defined c) v → get_or a v false ≡ false
  pub gates : All (IsConjunction a) c.gates

-- every constraint is true
abbrev pub IsLegal : Parts → Assignment → Type 0
IsLegal c a = All (λ lit. IsTrue (value_of a lit)) c.constraints

-- the assignment that fits this state and this row of inputs
pub record IsStep (c : Parts) (s r : List Bool) (a : Assignment) : Type 0 where
  pub fits : Fits c a
  pub state : latch_values c a ≡ s
  pub row : input_values c a ≡ r

-- the number whose digit k, of weight 2 ^ k, is the value of signal k
abbrev pub goal_of : List ℕ → Assignment → ℕ
goal_of [] a = 0
goal_of (lit ∷ lits) a = number (value_of a lit) + 2 * goal_of lits a

-- The assignment shows the goal: a number below 2 ^ the number of signals, whose binary digit k is the value of signal k.
pub record GoalOf (sig : List ℕ) (a : Assignment) (goal : ℕ) : Type 0 where
  pub below : goal < 2 ^ length sig
  pub digits : (k : ℕ) → k < length sig → bit_at goal k ≡ number (value_of a (get_or sig k 0))

-- ---- resets
-- a value with which a latch may start
abbrev pub Agrees : Reset → Bool → Type 0
Agrees Zero value = value ≡ false
Agrees One value = value ≡ true
Agrees Free value = Unit {0}

-- a state with which the circuit may start
pub record IsReset (c : Parts) (state : List Bool) : Type 0 where
  pub size : length state ≡ length c.latches
  pub agrees : (k : ℕ) (l : Latch) → k < length c.latches → Agrees ((get_or c.latches k l).reset) (get_or state k false)

-- ---- runs
-- Each assignment fits, and its latches hold what the one before hands on. (No assignments are a path from every state.)
pub record Path (c : Parts) (state : List Bool) (frames : List Assignment) : Type 0 where
  pub fits : All (Fits c) frames
  pub start : 0 < length frames → latch_values c (get_or frames 0 []) ≡ state
  pub next : (t : ℕ) → t + 1 < length frames → latch_values c (get_or frames (t + 1) []) ≡ next_values c (get_or frames t [])

-- the state that the last of these assignments hands on; with none it is the start
abbrev pub state_after : Parts → List Bool → List Assignment → List Bool
state_after c state [] = state
state_after c state (a ∷ frames) = state_after c (next_values c a) frames

-- a path of at least one assignment, each of them legal
pub record Run (c : Parts) (state : List Bool) (frames : List Assignment) : Type 0 where
  pub some : 0 < length frames
  pub path : Path c state frames
  pub legal : All (IsLegal c) frames

-- a run of t + 1 assignments from this state, of which the last shows the goal
pub record At (c : Parts) (sig : List ℕ) (state : List Bool) (t goal : ℕ) : Type 0 where
  pub frames : List Assignment
  pub size : length frames ≡ t + 1
  pub run : Run c state frames
  pub shows : goal_of sig (get_or frames t []) ≡ goal

-- the goal is reached within so many steps from reset
pub record Within (c : Parts) (sig : List ℕ) (depth goal : ℕ) : Type 0 where
  pub state : List Bool
  pub reset : IsReset c state
  pub t : ℕ
  pub near : t ≤ depth
  pub at : At c sig state t goal

-- the goal is reached from reset, however late
pub record Reachable (c : Parts) (sig : List ℕ) (goal : ℕ) : Type 0 where
  pub depth : ℕ
  pub within : Within c sig depth goal
