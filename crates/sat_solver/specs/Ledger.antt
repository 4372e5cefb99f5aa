-- The proof so far, and the clauses that it may use.
use Rattle.std.specs.Prelude.{◌≡◌, ℕ, ℤ, List, [], ◌∷◌, ◌++◌, map, length}
use Rattle.std.specs.List.{enumerate_from, AllByRecursion}
use Rattle.cnf_base.specs.Meaning.{CnfFormula}
use Rattle.lrat_text.specs.declared.proof.LratStep.{LratStep}
use Rattle.lrat_text.specs.declared.proof.LratStep.TheVariants.{Add, Delete}
use Rattle.lrat_text.specs.Standing.{Standing, start, after}
use Rattle.lrat_text.specs.Text.{HasIdsAndHints}
use Rattle.lrat_text.specs.Spent.{SpentFrom, EarnedFrom}

-- the clause that a step adds
abbrev pub lits_of : LratStep → List ℤ
lits_of (Add id lits hints) = lits
lits_of (Delete at ids) = []

-- the clauses of the formula, and those of the steps
abbrev pub earlier : CnfFormula → List LratStep → List (List ℤ)
earlier formula steps = formula.clauses ++ map lits_of steps

-- they are live under 1, 2, and so on
abbrev pub live : CnfFormula → List LratStep → List (ℕ × List ℤ)
live formula steps = enumerate_from 1 (earlier formula steps)

-- where a proof stands after some steps
abbrev pub after_all : Standing → List LratStep → Standing
after_all s [] = s
after_all s (step ∷ steps) = after_all (after s step) steps

-- the steps add lemmas that are earned, under ids that rise by one
pub record IsLedger (formula : CnfFormula) (steps : List LratStep) : Type 0 where
  pub spent : SpentFrom (start formula) formula.clauses steps
  pub earned : EarnedFrom formula.vars formula.clauses steps
  pub written : AllByRecursion HasIdsAndHints steps
  pub stands : after_all (start formula) steps ≡ record { live = live formula steps; greatest = length (earlier formula steps) }
