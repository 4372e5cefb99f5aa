-- Where a proof stands: the clauses that may be used, and the steps' effect on them.
use Rattle.std.specs.Prelude.{ℕ, cond, not, eqb, ℤ, List, [], ◌∷◌, ◌++◌, filter, Option, Some, None, length}
use Rattle.std.specs.List.{enumerate_from}
use Rattle.cnf_base.specs.Meaning.{CnfFormula}
use Rattle.lrat_text.specs.declared.proof.LratStep.{LratStep}
use Rattle.lrat_text.specs.declared.proof.LratStep.TheVariants.{Add, Delete}

-- the live clauses with their ids, and the greatest id used so far
pub record Standing : Type 0 where
  pub live : List (ℕ × List ℤ)
  pub greatest : ℕ

-- the clauses of a formula are live under 1, 2, and so on
abbrev pub start : CnfFormula → Standing
start formula = record { live = enumerate_from 1 formula.clauses; greatest = length formula.clauses }

-- the clause that lives under an id
abbrev pub clause_at : List (ℕ × List ℤ) → ℕ → Option (List ℤ)
clause_at [] id = None
clause_at (pair ∷ live) id = cond (eqb pair.0 id) (Some pair.1) (clause_at live id)

-- the live clauses without that of an id
abbrev pub without : List (ℕ × List ℤ) → ℕ → List (ℕ × List ℤ)
without live id = filter (λ pair. not (eqb pair.0 id)) live

abbrev pub without_all : List (ℕ × List ℤ) → List ℕ → List (ℕ × List ℤ)
without_all live [] = live
without_all live (id ∷ ids) = without_all (without live id) ids

-- one more live clause, whose id is the greatest now
abbrev pub with_clause : Standing → ℕ → List ℤ → Standing
with_clause s id lits = record { live = s.live ++ (id, lits) ∷ []; greatest = id }

abbrev pub with_deleted : Standing → List ℕ → Standing
with_deleted s ids = record { live = without_all s.live ids; greatest = s.greatest }

-- where a proof stands after a step
abbrev pub after : Standing → LratStep → Standing
after s (Add id lits hints) = with_clause s id lits
after s (Delete at ids) = with_deleted s ids
