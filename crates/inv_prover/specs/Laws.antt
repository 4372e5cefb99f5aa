-- What the definitions give.
use Rattle.std.specs.Prelude.{ℕ, ◌≡◌, ℤ, List}
use Rattle.aig_model.specs.LatchClauses.{IsInvariant}
use Rattle.aig_model.specs.declared.parts.Parts.{Parts}
use Rattle.inv_prover.specs.Candidates.{AreCandidates}
use Rattle.inv_prover.specs.Greatest.{IsGreatest}

-- A circuit, signals and a strength have no second list of candidates.
abbrev pub OneCandidateList : Type 0
OneCandidateList = (c : Parts) (sig : List ℕ) (strength : ℕ) (xs ys : List (List ℤ)) → AreCandidates c sig strength xs → AreCandidates c sig strength ys → xs ≡ ys

-- The greatest invariant is one.
abbrev pub GreatestIsInvariant : Type 0
GreatestIsInvariant = (c : Parts) (candidates clauses : List (List ℤ)) → IsGreatest c candidates clauses → IsInvariant c clauses
