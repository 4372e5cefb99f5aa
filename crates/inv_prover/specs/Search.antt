-- The search for the greatest invariant: clauses that are no part of it are left out until all others are kept.
use Rattle.std.specs.Prelude.{ℕ, ◌≡◌, ◌<◌, ◌^◌, Bool, ℤ, List, [], length, get_or, All, Contains}
use Rattle.aig_model.specs.Meaning.{Assignment, next_values}
use Rattle.aig_model.specs.LatchClauses.{IsInvariant, IsLatchClause, SatisfiesClause}
use Rattle.aig_model.specs.declared.parts.Parts.{Parts}
use Rattle.unroll.specs.Laws.{Holds}
use Rattle.unroll.specs.Queries.{kept_formula}
use Rattle.sat_solver.specs.Answer.{IsRefutation, IsSpending}
use Rattle.inv_cert.specs.Resets.{HoldsAtReset}
use Rattle.inv_prover.specs.Answers.{AreKept}
use Rattle.inv_prover.specs.Greatest.{IsPart}
use Rattle.inv_prover.specs.declared.query.KeptAnswer.{KeptAnswer}
use Rattle.inv_prover.specs.declared.query.KeptAnswer.TheVariants as kept_answer
use Rattle.inv_prover.specs.declared.round.Round.{Round}
use Rattle.inv_prover.specs.declared.round.Round.TheVariants as rounds

-- clauses of which a formula can be made
pub record AreAskable (c : Parts) (clauses : List (List ℤ)) : Type 0 where
  pub latches : All (IsLatchClause c) clauses
  pub few : length clauses < 2 ^ 32
  pub short : All (λ clause. length clause < 2 ^ 32) clauses

-- Clauses are left out, but none that an invariant among them has.
pub record Shrinks (c : Parts) (old new : List (List ℤ)) : Type 0 where
  pub part : IsPart new old
  pub invariants : (subset : List (List ℤ)) → All (Contains old) subset → IsInvariant c subset → All (Contains new) subset

-- the clauses to which the search has come
pub record AreLeft (c : Parts) (candidates clauses : List (List ℤ)) : Type 0 where
  pub shrinks : Shrinks c candidates clauses
  pub starts : All (HoldsAtReset c) clauses

-- ---- one clause
-- all clauses hold before a legal step, and the one at this place doesn't in the state after it
pub record IsBroken (c : Parts) (clauses : List (List ℤ)) (place : ℕ) (next : List Bool) : Type 0 where
  pub before : Assignment
  pub holds : Holds c clauses before
  pub after : next ≡ next_values c before
  pub fails : ¬ SatisfiesClause next (get_or clauses place [])

abbrev pub IsKeptAnswer : Parts → List (List ℤ) → ℕ → ℕ → KeptAnswer → Type 0
IsKeptAnswer c clauses place lemmas (kept_answer.Kept proof) = IsRefutation (kept_formula c clauses place) lemmas proof
IsKeptAnswer c clauses place lemmas (kept_answer.Broken next) = IsBroken c clauses place next
IsKeptAnswer c clauses place lemmas (kept_answer.Spent proof) = IsSpending (kept_formula c clauses place) lemmas proof

-- ---- all clauses
abbrev pub IsRound : Parts → List (List ℤ) → ℕ → Round → Type 0
IsRound c clauses lemmas (rounds.Whole proofs) = AreKept c clauses lemmas proofs
IsRound c clauses lemmas (rounds.Broken place next) = (place < length clauses) × IsBroken c clauses place next
IsRound c clauses lemmas (rounds.Spent place proof) = (place < length clauses) × IsSpending (kept_formula c clauses place) lemmas proof
