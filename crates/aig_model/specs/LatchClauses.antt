-- Clauses over latches: in them `k + 1` is latch k, and `-(k + 1)` its negation.
use Rattle.std.specs.Prelude.{ℕ, zero, suc, ◌<◌, ◌≢◌, Bool, false, not, ℤ, pos, negsuc, List, length, get_or, All, Any, IsTrue}
use Rattle.aig_model.specs.Meaning.{Assignment, Fits, IsLegal, IsReset, latch_values, next_values, goal_of}
use Rattle.aig_model.specs.declared.parts.Parts.{Parts}

-- the value of a latch's literal in a state; 0 is no latch's, and false
abbrev pub latch_literal_value : List Bool → ℤ → Bool
latch_literal_value state (pos zero) = false
latch_literal_value state (pos (suc k)) = get_or state k false
latch_literal_value state (negsuc k) = not (get_or state k false)

-- some literal of the clause is true in the state
abbrev pub SatisfiesClause : List Bool → List ℤ → Type 0
SatisfiesClause state clause = Any (λ lit. IsTrue (latch_literal_value state lit)) clause

-- every clause is satisfied
abbrev pub SatisfiesClauses : List Bool → List (List ℤ) → Type 0
SatisfiesClauses state clauses = All (SatisfiesClause state) clauses

-- the literal is that of a latch of the circuit
abbrev pub NamesLatch : Parts → ℤ → Type 0
NamesLatch c (pos zero) = ⊥
NamesLatch c (pos (suc k)) = k < length c.latches
NamesLatch c (negsuc k) = k < length c.latches

-- at least one literal, each that of a latch of the circuit
pub record IsLatchClause (c : Parts) (clause : List ℤ) : Type 0 where
  pub some : 0 < length clause
  pub latches : All (NamesLatch c) clause

-- The clauses hold in every reset state, and after every legal assignment in whose state they hold.
pub record IsInvariant (c : Parts) (clauses : List (List ℤ)) : Type 0 where
  pub start : (state : List Bool) → IsReset c state → SatisfiesClauses state clauses
  pub kept : (a : Assignment) → Fits c a → IsLegal c a → SatisfiesClauses (latch_values c a) clauses → SatisfiesClauses (next_values c a) clauses

-- The clauses are an invariant, and no legal assignment in whose state they hold shows the goal.
pub record Bars (c : Parts) (sig : List ℕ) (clauses : List (List ℤ)) (goal : ℕ) : Type 0 where
  pub invariant : IsInvariant c clauses
  pub excludes : (a : Assignment) → Fits c a → IsLegal c a → SatisfiesClauses (latch_values c a) clauses → goal_of sig a ≢ goal
