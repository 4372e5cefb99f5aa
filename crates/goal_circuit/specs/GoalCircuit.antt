-- The circuit whose bad literal g is true exactly where goal g is shown.
use Rattle.std.specs.Prelude.{ℕ, ◌+◌, ◌-◌, ◌*◌, ◌%◌, ◌==◌, Bool, true, false, ◌||◌, if◌then◌else◌, List, [], ◌∷◌, ◌++◌, map, filter, length}
use Rattle.std.specs.List.{list_any}
use Rattle.aig_model.specs.Literal.{var}
use Rattle.aig_model.specs.WellFormed.{left_sides, defined}
use Rattle.aig_model.specs.declared.parts.AndGate.{AndGate}
use Rattle.aig_model.specs.declared.parts.Named.{Named}
use Rattle.aig_model.specs.declared.parts.Parts.{Parts}
use Rattle.aig_model.specs.declared.parts.Place.{Place}
use Rattle.aig_model.specs.declared.parts.Place.TheVariants as places

-- ---- literals
-- the other literal of the same variable
abbrev pub negation : ℕ → ℕ
negation lit = lit + 1 - 2 * (lit % 2)

-- the literal itself, or the constant of its sign where nothing defines its variable
abbrev pub standing_literal : Parts → ℕ → ℕ
standing_literal c lit = if (var lit == 0) || list_any (λ v. v == var lit) (defined c) then lit else lit % 2

-- ---- levels: a literal for each combination of some signals, in the order of the combinations' numbers
-- the conjunctions of each of these literals with one literal, as gates of the variables from this one on
abbrev pub conjunctions : ℕ → List ℕ → ℕ → List AndGate
conjunctions first [] right = []
conjunctions first (left ∷ lefts) right = record { lhs = 2 * first; left = left; right = right } ∷ conjunctions (first + 1) lefts right

-- the gates of a level: the literals of the level before with the negation of one more signal, and then with the signal
abbrev pub level_gates : ℕ → List ℕ → ℕ → List AndGate
level_gates first level signal = conjunctions first level (negation signal) ++ conjunctions (first + length level) level signal

-- the gates of the levels after this one, one for each further signal
abbrev pub new_gates : ℕ → List ℕ → List ℕ → List AndGate
new_gates first level [] = []
new_gates first level (signal ∷ signals) =
    level_gates first level signal ++ new_gates (first + 2 * length level) (left_sides (level_gates first level signal)) signals

-- the literals of the last level
abbrev pub goal_literals : ℕ → List ℕ → List ℕ → List ℕ
goal_literals first level [] = level
goal_literals first level (signal ∷ signals) = goal_literals (first + 2 * length level) (left_sides (level_gates first level signal)) signals

-- ---- the circuit
abbrev pub first_level : ℕ → List ℕ
first_level signal = negation signal ∷ signal ∷ []

abbrev pub goal_gates : Parts → List ℕ → List AndGate
goal_gates c [] = []
goal_gates c (signal ∷ signals) = new_gates (c.top + 1) (first_level (standing_literal c signal)) (map (standing_literal c) signals)

abbrev pub goal_bads : Parts → List ℕ → List ℕ
goal_bads c [] = []
goal_bads c (signal ∷ signals) = goal_literals (c.top + 1) (first_level (standing_literal c signal)) (map (standing_literal c) signals)

-- names of inputs, latches and constraints stay
abbrev pub is_kept_place : Place → Bool
is_kept_place (places.Input k) = true
is_kept_place (places.Latch k) = true
is_kept_place (places.Output k) = false
is_kept_place (places.Bad k) = false
is_kept_place (places.Constraint k) = true

abbrev pub is_kept : Named → Bool
is_kept named = is_kept_place named.place

abbrev pub kept_parts : Parts → ℕ → Parts
kept_parts c top = record {
  top = top;
  inputs = c.inputs;
  latches = c.latches;
  outputs = [];
  bads = [];
  constraints = c.constraints;
  gates = c.gates;
  names = filter is_kept c.names;
}

abbrev pub goal_parts : Parts → List ℕ → Parts
goal_parts c sig = record {
  top = c.top + length (goal_gates c sig);
  inputs = c.inputs;
  latches = c.latches;
  outputs = [];
  bads = goal_bads c sig;
  constraints = c.constraints;
  gates = c.gates ++ goal_gates c sig;
  names = filter is_kept c.names;
}
