-- The first fault of a proof that is to spend a number of lemmas.
use Rattle.std.specs.Prelude.{◌≡◌, ℕ, ◌+◌, Bool, false, cond, not, ◌&&◌, ◌||◌, eqb, ℤ, List, [], ◌∷◌, ◌++◌, length, Option, Some, None}
use Rattle.std.specs.List.{list_any, list_all}
use Rattle.cnf_base.specs.Status.{has, is_tautology}
use Rattle.cnf_base.specs.Meaning.{CnfFormula}
use Rattle.lrat_text.specs.declared.proof.LratStep.{LratStep}
use Rattle.lrat_text.specs.declared.proof.LratStep.TheVariants.{Add, Delete}
use Rattle.lrat_check.specs.declared.fault.ProofKind.{ProofKind}
use Rattle.lrat_check.specs.declared.fault.SpentFault.{SpentFault}
use Rattle.lrat_check.specs.declared.fault.SpentFault.TheVariants.{Proof, Lemma, Count, OutOfMemory}
use Rattle.lrat_text.specs.Standing.{Standing, start, after}
use Rattle.lrat_check.specs.FirstFault.{step_fault, is_empty}

-- whether two clauses have the same literals
abbrev pub same_literals : List ℤ → List ℤ → Bool
same_literals a b = list_all (has b) a && list_all (has a) b

abbrev pub is_lemma : List (List ℤ) → List ℤ → Bool
is_lemma earlier lits = not (is_empty lits || (is_tautology lits || list_any (same_literals lits) earlier))

abbrev pub adds_lemma : List (List ℤ) → LratStep → Bool
adds_lemma earlier (Add id lits hints) = is_lemma earlier lits
adds_lemma earlier (Delete at ids) = false

-- the earlier clauses after a step
abbrev pub with_lemma : List (List ℤ) → LratStep → List (List ℤ)
with_lemma earlier (Add id lits hints) = earlier ++ lits ∷ []
with_lemma earlier (Delete at ids) = earlier

-- by a step's number, its fault, whether it adds a lemma, and what the later steps have
abbrev pub spent_at : ℕ → Option ProofKind → Bool → Option SpentFault → Option SpentFault
spent_at step (Some kind) lemma later = Some (Proof step)
spent_at step None lemma later = cond lemma later (Some (Lemma step))

abbrev pub spent_from : ℕ → Standing → List (List ℤ) → List LratStep → Option SpentFault
spent_from n s earlier [] = None
spent_from n s earlier (step ∷ steps) = spent_at (n + 1) (step_fault s step) (adds_lemma earlier step) (spent_from (n + 1) (after s step) (with_lemma earlier step) steps)

-- a fault of the steps, or else of their number
abbrev pub counted : Option SpentFault → Bool → Option SpentFault
counted (Some fault) right = Some fault
counted None right = cond right None (Some Count)

abbrev pub spent_fault : CnfFormula → ℕ → List LratStep → Option SpentFault
spent_fault formula lemmas proof = counted (spent_from 0 (start formula) formula.clauses proof) (eqb (length proof) lemmas)

abbrev pub IsSpentFault : Option SpentFault → SpentFault → Type 0
IsSpentFault first (Proof step) = first ≡ Some (Proof step)
IsSpentFault first (Lemma step) = first ≡ Some (Lemma step)
IsSpentFault first Count = first ≡ Some Count
IsSpentFault first OutOfMemory = Unit {0}
