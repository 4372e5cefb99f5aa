-- Clauses that hold at reset.
use Rattle.std.specs.Prelude.{◌≡◌, ◌⊎◌, ◌<◌, ℕ, Bool, false, ℤ, neg_ℤ, List, [], length, get_or, Contains, IsTrue}
use Rattle.aig_model.specs.Meaning.{IsReset}
use Rattle.aig_model.specs.LatchClauses.{latch_literal_value, SatisfiesClause}
use Rattle.aig_model.specs.declared.parts.Parts.{Parts}

-- the clause holds in every state with which the circuit may start
abbrev pub HoldsAtReset : Parts → List ℤ → Type 0
HoldsAtReset c clause = (state : List Bool) → IsReset c state → SatisfiesClause state clause

-- clause k fails in some such state
pub record FailsAtReset (c : Parts) (clauses : List (List ℤ)) (k : ℕ) : Type 0 where
  pub inside : k < length clauses
  pub fails : ¬ HoldsAtReset c (get_or clauses k [])

-- the literal is true in every reset state
abbrev pub IsSure : Parts → ℤ → Type 0
IsSure c lit = (state : List Bool) → IsReset c state → IsTrue (latch_literal_value state lit)

-- the literal is false in this state, or one of the clause's literals is true in every reset state for its sake:
-- itself, or it and its negation by turns
abbrev pub IsFalsified : Parts → List ℤ → List Bool → ℤ → Type 0
IsFalsified c clause state lit = (latch_literal_value state lit ≡ false) ⊎ (IsSure c lit ⊎ Contains clause (neg_ℤ lit))
