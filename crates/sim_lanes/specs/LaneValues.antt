-- Truth values in 64 lanes, a word each: bit j of a word belongs to lane j.
use Rattle.std.specs.Prelude.{◌≡◌, ◌↔◌, ℕ, ◌+◌, ◌<◌, Bool, false, ◌&&◌, not, if◌then◌else◌, IsTrue, List, map, length, get_or, All, Contains}
use Rattle.aig_model.specs.Literal.{value_of}
use Rattle.aig_model.specs.WellFormed.{defined, next_lits}
use Rattle.aig_model.specs.Meaning.{IsLegal, IsStep, goal_of}
use Rattle.aig_model.specs.declared.parts.AndGate.{AndGate}
use Rattle.aig_model.specs.declared.parts.Latch.{Latch}
use Rattle.aig_model.specs.declared.parts.Parts.{Parts}
use Rattle.aig_eval.specs.Filling.{Assigns, Solves, conjunction}
use Rattle.sim_batch.specs.Words.{bit_of_word}

-- the values of lane j
abbrev pub lane_values : ℕ → List ℕ → List Bool
lane_values j words = map (bit_of_word j) words

-- ---- words
-- in each lane the word is the other's value, negated or not
abbrev pub IsSigned : ℕ → Bool → ℕ → Type 0
IsSigned word negated new = (j : ℕ) → j < 64 → bit_of_word j new ≡ (if negated then not (bit_of_word j word) else bit_of_word j word)

abbrev pub AreBoth : ℕ → ℕ → ℕ → Type 0
AreBoth left right new = (j : ℕ) → j < 64 → bit_of_word j new ≡ (bit_of_word j left && bit_of_word j right)

-- the lanes of a mask take one word's values, and the others another's
abbrev pub AreChosen : ℕ → ℕ → ℕ → ℕ → Type 0
AreChosen mask on off new = (j : ℕ) → j < 64 → bit_of_word j new ≡ (if bit_of_word j mask then bit_of_word j on else bit_of_word j off)

-- ---- the values of a circuit's variables
-- the word has a literal's value in each lane
abbrev pub HasValues : List ℕ → ℕ → ℕ → Type 0
HasValues values lit word = (j : ℕ) → j < 64 → bit_of_word j word ≡ value_of (lane_values j values) lit

abbrev pub HasConjunctions : List ℕ → AndGate → ℕ → Type 0
HasConjunctions values gate word = (j : ℕ) → j < 64 → bit_of_word j word ≡ conjunction (lane_values j values) gate

-- in each lane the literals have the values of these words now
abbrev pub AssignsLanes : List ℕ → List ℕ → List ℕ → List ℕ → Type 0
AssignsLanes lits words old new = (j : ℕ) → j < 64 → Assigns lits (lane_values j words) (lane_values j old) (lane_values j new)

-- in each lane the gates are solved now
abbrev pub SolvesLanes : List AndGate → List ℕ → List ℕ → Type 0
SolvesLanes gates old new = (j : ℕ) → j < 64 → Solves gates (lane_values j old) (lane_values j new)

-- a word for each variable, of which those that nothing defines are false in each lane
pub record AreBlank (c : Parts) (values : List ℕ) : Type 0 where
  pub size : length values ≡ c.top + 1
  pub undefined : (j v : ℕ) → j < 64 → ¬ Contains (defined c) v → get_or (lane_values j values) v false ≡ false

-- in each lane the values are those of a step
abbrev pub AreSteps : Parts → List ℕ → List ℕ → List ℕ → Type 0
AreSteps c state row values = (j : ℕ) → j < 64 → IsStep c (lane_values j state) (lane_values j row) (lane_values j values)

-- ---- masks
-- the lanes in which all these literals are true
abbrev pub AreTrueLanes : List ℕ → List ℕ → ℕ → Type 0
AreTrueLanes values lits mask = (j : ℕ) → j < 64 → IsTrue (bit_of_word j mask) ↔ All (λ lit. IsTrue (value_of (lane_values j values) lit)) lits

-- the lanes in which the values are legal
abbrev pub AreLegalLanes : Parts → List ℕ → ℕ → Type 0
AreLegalLanes c values mask = (j : ℕ) → j < 64 → IsTrue (bit_of_word j mask) ↔ IsLegal c (lane_values j values)

-- the goal of lane j
abbrev pub lane_goal : List ℕ → List ℕ → ℕ → ℕ
lane_goal sig values j = goal_of sig (lane_values j values)

-- the lanes of a mask that show the goal
abbrev pub AreLanesOf : List ℕ → List ℕ → ℕ → ℕ → ℕ → Type 0
AreLanesOf sig values among goal mask = (j : ℕ) → j < 64 → IsTrue (bit_of_word j mask) ↔ (IsTrue (bit_of_word j among) × (lane_goal sig values j ≡ goal))

-- the lanes of a mask go on to the next state, and the others stay where they are
abbrev pub HandsOn : List Latch → List ℕ → ℕ → List ℕ → List ℕ → Type 0
HandsOn latches values live old new = (j : ℕ) → j < 64
    → lane_values j new ≡ (if bit_of_word j live then map (value_of (lane_values j values)) (next_lits latches) else lane_values j old)

-- the lanes of a mask have these states now
abbrev pub Keeps : List ℕ → ℕ → List ℕ → List ℕ → Type 0
Keeps state live old new = (j : ℕ) → j < 64 → lane_values j new ≡ (if bit_of_word j live then lane_values j state else lane_values j old)

-- the lanes of a mask have this number now
abbrev pub NotesStep : ℕ → ℕ → List ℕ → List ℕ → Type 0
NotesStep mask step old new = (j : ℕ) → j < 64 → get_or new j 0 ≡ (if bit_of_word j mask then step else get_or old j 0)
