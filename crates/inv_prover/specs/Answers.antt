-- What the prover answers.
use Rattle.std.specs.Prelude.{ℕ, ◌≡◌, ◌<◌, Bool, ℤ, List, [], length, get_or}
use Rattle.aig_model.specs.Meaning.{Assignment, IsStep, IsLegal, goal_of}
use Rattle.aig_model.specs.LatchClauses.{SatisfiesClauses}
use Rattle.aig_model.specs.declared.parts.Parts.{Parts}
use Rattle.lrat_text.specs.declared.proof.LratStep.{LratStep}
use Rattle.unroll.specs.Queries.{excludes_formula, kept_formula}
use Rattle.sat_solver.specs.Answer.{IsRefutation, IsSpending}
use Rattle.inv_cert.specs.KeptSets.{IsKeptSet}
use Rattle.inv_prover.specs.Greatest.{ContainsGreatest, IsGreatest}
use Rattle.inv_prover.specs.declared.excluded.Excluded.{Excluded}
use Rattle.inv_prover.specs.declared.excluded.Excluded.TheVariants as excluded
use Rattle.inv_prover.specs.declared.grown.Grown.{Grown}
use Rattle.inv_prover.specs.declared.grown.Grown.TheVariants as grown

-- ---- the greatest invariant
-- each clause has its proof, within the budget of lemmas
pub record AreKept (c : Parts) (clauses : List (List ℤ)) (lemmas : ℕ) (proofs : List (List LratStep)) : Type 0 where
  pub count : length proofs ≡ length clauses
  pub refutations : (k : ℕ) → k < length clauses → IsRefutation (kept_formula c clauses k) lemmas (get_or proofs k [])

-- all of it, and each clause with its proof
pub record IsWhole (c : Parts) (candidates : List (List ℤ)) (lemmas : ℕ) (clauses : List (List ℤ)) (proofs : List (List LratStep)) : Type 0 where
  pub greatest : IsGreatest c candidates clauses
  pub kept : IsKeptSet (record { circuit = c; clauses = clauses; kept = proofs })
  pub proved : AreKept c clauses lemmas proofs

-- clauses that have it among them, and a proof that the budget was spent on the question whether one of them is kept
pub record IsSpentAt (c : Parts) (candidates : List (List ℤ)) (lemmas : ℕ) (clauses : List (List ℤ)) (place : ℕ) (proof : List LratStep) : Type 0 where
  pub greatest : ContainsGreatest c candidates clauses
  pub inside : place < length clauses
  pub spending : IsSpending (kept_formula c clauses place) lemmas proof

abbrev pub IsGrown : Parts → List (List ℤ) → ℕ → Grown → Type 0
IsGrown c candidates lemmas (grown.Whole clauses kept) = IsWhole c candidates lemmas clauses kept
IsGrown c candidates lemmas (grown.Spent clauses place proof) = IsSpentAt c candidates lemmas clauses place proof

-- ---- a goal
-- a legal step from a state in which the clauses hold shows the goal
pub record Escapes (c : Parts) (sig : List ℕ) (clauses : List (List ℤ)) (goal : ℕ) (state row : List Bool) : Type 0 where
  pub values : Assignment
  pub step : IsStep c state row values
  pub legal : IsLegal c values
  pub satisfied : SatisfiesClauses state clauses
  pub shows : goal_of sig values ≡ goal

abbrev pub IsExcluded : Parts → List ℕ → List (List ℤ) → ℕ → ℕ → Excluded → Type 0
IsExcluded c sig clauses goal lemmas (excluded.Yes proof) = IsRefutation (excludes_formula c sig clauses goal) lemmas proof
IsExcluded c sig clauses goal lemmas (excluded.No state row) = Escapes c sig clauses goal state row
IsExcluded c sig clauses goal lemmas (excluded.Spent proof) = IsSpending (excludes_formula c sig clauses goal) lemmas proof
