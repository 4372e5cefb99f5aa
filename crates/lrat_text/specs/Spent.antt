-- A proof that spends a number of lemmas, each of them new, and when each is earned.
use Rattle.std.specs.Prelude.{◌≡◌, ◌≢◌, ℕ, IsTrue, ℤ, List, [], ◌∷◌, ◌++◌, length, All}
use Rattle.cnf_base.specs.Status.{has}
use Rattle.cnf_base.specs.Meaning.{CnfFormula, IsWithin}
use Rattle.lrat_text.specs.declared.proof.LratStep.{LratStep}
use Rattle.lrat_text.specs.declared.proof.LratStep.TheVariants.{Add, Delete}
use Rattle.lrat_text.specs.Standing.{Standing, start, with_clause}
use Rattle.lrat_text.specs.Accepted.{IsBothWays, MayAdd}

-- two clauses with the same literals, in any order and number
abbrev pub SameLiterals : List ℤ → List ℤ → Type 0
SameLiterals a b = (l : ℤ) → has a l ≡ has b l

-- a clause that has all literals of another
abbrev pub ContainsAll : List ℤ → List ℤ → Type 0
ContainsAll clause part = (l : ℤ) → IsTrue (has part l) → IsTrue (has clause l)

-- a clause that says something, and something that none of the earlier ones says in the same literals
pub record IsLemma (earlier : List (List ℤ)) (lits : List ℤ) : Type 0 where
  pub not_empty : lits ≢ []
  pub plain : ¬ IsBothWays lits
  pub fresh : All (λ clause. ¬ SameLiterals lits clause) earlier

-- each step is an addition that may be made, of a lemma
abbrev pub SpentFrom : Standing → List (List ℤ) → List LratStep → Type 0
SpentFrom s earlier [] = Unit {0}
SpentFrom s earlier (Add id lits hints ∷ steps) = MayAdd s id lits hints × IsLemma earlier lits × SpentFrom (with_clause s id lits) (earlier ++ lits ∷ []) steps
SpentFrom s earlier (Delete at ids ∷ steps) = ⊥

-- the proof has exactly this number of steps, each of which adds a lemma
pub record SpentOn (formula : CnfFormula) (lemmas : ℕ) (proof : List LratStep) : Type 0 where
  pub count : length proof ≡ lemmas
  pub spent : SpentFrom (start formula) formula.clauses proof

abbrev pub EarnedFrom : ℕ → List (List ℤ) → List LratStep → Type 0
EarnedFrom vars earlier [] = Unit {0}
EarnedFrom vars earlier (Add id lits hints ∷ steps) = IsWithin vars lits × All (λ clause. ¬ ContainsAll lits clause) earlier × EarnedFrom vars (earlier ++ lits ∷ []) steps
EarnedFrom vars earlier (Delete at ids ∷ steps) = EarnedFrom vars earlier steps

-- no step names a variable that the formula has not, and no step's clause contains all literals of a clause of the
-- formula or of an earlier step
abbrev pub Earned : CnfFormula → List LratStep → Type 0
Earned formula proof = EarnedFrom formula.vars formula.clauses proof
