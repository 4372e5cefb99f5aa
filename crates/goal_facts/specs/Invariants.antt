-- The clauses by which goals are unreachable: the greatest invariant among the candidates.
use Rattle.std.specs.Prelude.{◌≢◌, ℕ, ℤ, List}
use Rattle.aig_model.specs.Meaning.{Assignment, Fits, IsLegal, latch_values, goal_of}
use Rattle.aig_model.specs.LatchClauses.{SatisfiesClauses}
use Rattle.aig_model.specs.declared.parts.Parts.{Parts}
use Rattle.inv_prover.specs.Candidates.{AreCandidates}
use Rattle.inv_prover.specs.Greatest.{IsGreatest, ContainsGreatest}

-- all of the greatest invariant among the candidates of this strength, in their order
pub record IsGreatestInvariant (c : Parts) (sig : List ℕ) (strength : ℕ) (clauses : List (List ℤ)) : Type 0 where
  pub candidates : List (List ℤ)
  pub are : AreCandidates c sig strength candidates
  pub greatest : IsGreatest c candidates clauses

-- candidates of this strength, in their order, among which is all of it
pub record HoldsGreatestInvariant (c : Parts) (sig : List ℕ) (strength : ℕ) (clauses : List (List ℤ)) : Type 0 where
  pub candidates : List (List ℤ)
  pub are : AreCandidates c sig strength candidates
  pub contains : ContainsGreatest c candidates clauses

-- no legal assignment in whose state the clauses hold shows the goal
abbrev pub Excludes : Parts → List ℕ → List (List ℤ) → ℕ → Type 0
Excludes c sig clauses goal = (a : Assignment) → Fits c a → IsLegal c a → SatisfiesClauses (latch_values c a) clauses → goal_of sig a ≢ goal

-- the greatest invariant excludes the goal
pub record IsExcluded (c : Parts) (sig : List ℕ) (strength goal : ℕ) : Type 0 where
  pub clauses : List (List ℤ)
  pub greatest : IsGreatestInvariant c sig strength clauses
  pub excludes : Excludes c sig clauses goal
