-- What each answer of the solver says.
use Rattle.std.specs.Prelude.{ℕ, suc, ◌≤◌, ℤ, List, [], ◌∷◌, length}
use Rattle.std.specs.List.{AllByRecursion}
use Rattle.cnf_base.specs.Meaning.{CnfFormula, IsModel}
use Rattle.lrat_text.specs.declared.proof.LratStep.{LratStep}
use Rattle.lrat_text.specs.declared.proof.LratStep.TheVariants.{Add, Delete}
use Rattle.lrat_text.specs.Text.{HasIdsAndHints}
use Rattle.lrat_text.specs.Standing.{start}
use Rattle.lrat_text.specs.Accepted.{Ends, Accepted}
use Rattle.lrat_text.specs.Spent.{SpentOn, Earned}
use Rattle.sat_solver.specs.declared.answer.Answer.{Answer}
use Rattle.sat_solver.specs.declared.answer.Answer.TheVariants.{Sat, Unsat, Spent}
use Rattle.sat_solver.specs.Ledger.{after_all}

-- how many clauses that aren't empty are added
abbrev pub lemma_count : List LratStep → ℕ
lemma_count [] = 0
lemma_count (Add id [] hints ∷ steps) = lemma_count steps
lemma_count (Add id (l ∷ ls) hints ∷ steps) = suc (lemma_count steps)
lemma_count (Delete at ids ∷ steps) = lemma_count steps

-- an accepted proof within the budget of lemmas
pub record IsRefutation (formula : CnfFormula) (lemmas : ℕ) (proof : List LratStep) : Type 0 where
  pub accepted : Accepted formula proof
  pub within : lemma_count proof ≤ lemmas
  -- one step more than that, which adds the empty clause
  pub short : length proof ≤ suc lemmas
  -- its text spells it again
  pub written : AllByRecursion HasIdsAndHints proof

-- a proof that spends the whole budget on lemmas that it earns, where unit propagation from the formula and the lemmas
-- alone meets no false clause
pub record IsSpending (formula : CnfFormula) (lemmas : ℕ) (proof : List LratStep) : Type 0 where
  pub spent : SpentOn formula lemmas proof
  pub earned : Earned formula proof
  pub written : AllByRecursion HasIdsAndHints proof
  pub undecided : (hints : List ℤ) → ¬ Ends (after_all (start formula) proof).live [] hints

abbrev pub IsAnswer : CnfFormula → ℕ → Answer → Type 0
IsAnswer formula lemmas (Sat bits) = IsModel formula bits
IsAnswer formula lemmas (Unsat proof) = IsRefutation formula lemmas proof
IsAnswer formula lemmas (Spent proof) = IsSpending formula lemmas proof
