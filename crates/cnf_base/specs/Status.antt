-- A clause under literals that are assumed to be true.
-- A literal is true where it's assumed, false where its negation alone is, and else open.
use Rattle.std.specs.Prelude.{◌≢◌, IsTrue, IsFalse, Bool, false, cond, not, ◌||◌, eqb, ℤ, pos, negsuc, neg_ℤ, List, [], ◌∷◌, filter}
use Rattle.std.specs.List.{list_any, list_all}
use Rattle.cnf_base.specs.declared.clause_status.ClauseStatus.{ClauseStatus}
use Rattle.cnf_base.specs.declared.clause_status.ClauseStatus.TheVariants.{Satisfied, Falsified, Unit, Unresolved}

-- whether two literals are one
abbrev pub same_lit : ℤ → ℤ → Bool
same_lit (pos a) (pos b) = eqb a b
same_lit (pos a) (negsuc b) = false
same_lit (negsuc a) (pos b) = false
same_lit (negsuc a) (negsuc b) = eqb a b

-- whether a literal is one of a list
abbrev pub has : List ℤ → ℤ → Bool
has [] l = false
has (m ∷ ms) l = same_lit m l || has ms l

-- a literal is false where its negation is assumed and it is not
abbrev pub IsFalseIn : List ℤ → ℤ → Type 0
IsFalseIn assumed l = IsFalse (has assumed l) × IsTrue (has assumed (neg_ℤ l))

-- a literal is open where neither it nor its negation is assumed
abbrev pub IsOpenIn : List ℤ → ℤ → Type 0
IsOpenIn assumed l = IsFalse (has assumed l) × IsFalse (has assumed (neg_ℤ l))

-- a literal of the clause is assumed
abbrev pub IsSatisfiedIn : List ℤ → List ℤ → Type 0
IsSatisfiedIn assumed clause = (l : ℤ) × IsTrue (has clause l) × IsTrue (has assumed l)

-- all literals of the clause are false
abbrev pub IsFalsifiedIn : List ℤ → List ℤ → Type 0
IsFalsifiedIn assumed clause = (l : ℤ) → IsTrue (has clause l) → IsFalseIn assumed l

-- the literal is the one of the clause that is open, and all others are false
pub record IsUnitIn (assumed clause : List ℤ) (l : ℤ) : Type 0 where
  pub inside : IsTrue (has clause l)
  pub open_here : IsOpenIn assumed l
  pub others : (m : ℤ) → IsTrue (has clause m) → m ≢ l → IsFalseIn assumed m

-- no literal of the clause is assumed, and two different ones are open
pub record IsUnresolvedIn (assumed clause : List ℤ) : Type 0 where
  pub none_true : (l : ℤ) → IsTrue (has clause l) → IsFalse (has assumed l)
  pub first : ℤ
  pub second : ℤ
  pub first_in : IsTrue (has clause first)
  pub second_in : IsTrue (has clause second)
  pub different : first ≢ second
  pub first_open : IsOpenIn assumed first
  pub second_open : IsOpenIn assumed second

-- whether neither a literal nor its negation is assumed
abbrev pub is_open : List ℤ → ℤ → Bool
is_open assumed l = not (has assumed l || has assumed (neg_ℤ l))

-- a clause without a true literal, by its open literals
abbrev pub status_by_open : List ℤ → ClauseStatus
status_by_open [] = Falsified
status_by_open (l ∷ ls) = cond (list_all (same_lit l) ls) (Unit l) Unresolved

abbrev pub clause_status : List ℤ → List ℤ → ClauseStatus
clause_status assumed clause = cond (list_any (has assumed) clause) Satisfied (status_by_open (filter (is_open assumed) clause))

-- whether a clause has a literal both ways
abbrev pub is_tautology : List ℤ → Bool
is_tautology clause = list_any (λ l. has clause (neg_ℤ l)) clause

-- a status with one more open literal
abbrev pub with_open_literal : ClauseStatus → ℤ → ClauseStatus
with_open_literal Satisfied l = Satisfied
with_open_literal Falsified l = Unit l
with_open_literal (Unit first) l = cond (same_lit first l) (Unit first) Unresolved
with_open_literal Unresolved l = Unresolved
