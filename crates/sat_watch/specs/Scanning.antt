-- What the parts of propagation leave.
use Rattle.std.specs.Prelude.{◌≡◌, ◌≢◌, ℕ, IsTrue, IsFalse, ℤ, neg_ℤ, Some, List, slice_get, ◌⊎◌}
use Rattle.cnf_base.specs.declared.clause_status.ClauseStatus.{ClauseStatus}
use Rattle.cnf_base.specs.declared.clause_status.ClauseStatus.TheVariants.{Satisfied, Falsified, Unit, Unresolved}
use Rattle.cnf_base.specs.Status.{has, IsSatisfiedIn, IsFalsifiedIn, IsUnitIn}

-- two different literals that none of these falsifies
pub record HasTwoFree (looked_at clause : List ℤ) : Type 0 where
  pub first : ℤ
  pub second : ℤ
  pub first_in : IsTrue (has clause first)
  pub second_in : IsTrue (has clause second)
  pub different : first ≢ second
  pub first_free : IsFalse (has looked_at (neg_ℤ first))
  pub second_free : IsFalse (has looked_at (neg_ℤ second))

-- a clause's judgement, where two literals that aren't false are enough to call it open
abbrev pub HasStatus : List ℤ → List ℤ → ClauseStatus → Type 0
HasStatus true_lits clause Satisfied = IsSatisfiedIn true_lits clause
HasStatus true_lits clause Falsified = IsFalsifiedIn true_lits clause
HasStatus true_lits clause (Unit l) = IsUnitIn true_lits clause l
HasStatus true_lits clause Unresolved = HasTwoFree true_lits clause

-- nothing is to be done for the clause after these literals were looked at
abbrev pub Rests : List ℤ → List ℤ → List ℤ → Type 0
Rests true_lits looked_at clause = IsSatisfiedIn true_lits clause ⊎ HasTwoFree looked_at clause

-- the clause at a place rests
abbrev pub RestsAt : List (List ℤ) → List ℤ → List ℤ → ℕ → Type 0
RestsAt clauses true_lits looked_at place = (clause : List ℤ) → slice_get clauses place ≡ Some clause → Rests true_lits looked_at clause

-- the clause at a place is false
abbrev pub IsFalsifiedAt : List (List ℤ) → List ℤ → ℕ → Type 0
IsFalsifiedAt clauses true_lits place = (clause : List ℤ) × (slice_get clauses place ≡ Some clause) × IsFalsifiedIn true_lits clause
