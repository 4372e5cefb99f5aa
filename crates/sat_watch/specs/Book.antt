-- A book of clauses, what a trail makes of them, and what propagation assignments on the trail.
use Rattle.std.specs.Prelude.{◌≡◌, ℕ, ◌<◌, ◌≤◌, nat_eq, ℤ, nat_abs, Some, List, [], ◌∷◌, ◌++◌, length, map, slice_get, All}
use Rattle.std.specs.List.{IsDistinct}
use Rattle.cnf_base.specs.Status.{IsFalsifiedIn, IsUnitIn}
use Rattle.cnf_base.specs.Dimacs.{IsLiteral}
use Rattle.sat_trail.specs.declared.clause_id.ClauseId.{ClauseId}
use Rattle.sat_trail.specs.declared.clause_id.ClauseId.TheVariants as ids
use Rattle.sat_trail.specs.Trail.{Assignment, TrailState, lits, upto}
use Rattle.sat_watch.specs.declared.mark.Mark.{Mark}
use Rattle.sat_watch.specs.declared.scan.Scan.{Scan}
use Rattle.sat_watch.specs.declared.scan.Scan.TheVariants.{Quiet, Conflict}

-- clauses over the variables 1 to vars, and the trail's literals with their levels when the last propagation returned
pub record BookState : Type 0 where
  pub vars : ℕ
  pub clauses : List (List ℤ)
  pub seen : List Mark

-- ---- the clauses

pub record IsBookClause (vars : ℕ) (clause : List ℤ) : Type 0 where
  pub two : 2 ≤ length clause
  pub in_range : All (IsLiteral vars) clause
  pub distinct : IsDistinct nat_eq (map nat_abs clause)

-- the clause that an id names; no clause of the book is a unit
abbrev pub IsClauseOf : List (List ℤ) → ClauseId → List ℤ → Type 0
IsClauseOf clauses (ids.Book place) clause = slice_get clauses place ≡ Some clause
IsClauseOf clauses (ids.Unit number) clause = ⊥

-- ---- what literals make of the clauses

abbrev pub NoneFalse : List (List ℤ) → List ℤ → Type 0
NoneFalse clauses true_lits = All (λ c. ¬ IsFalsifiedIn true_lits c) clauses

-- no clause has one literal that is unassigned, and all others false
abbrev pub NoneUnit : List (List ℤ) → List ℤ → Type 0
NoneUnit clauses true_lits = All (λ c. (l : ℤ) → ¬ IsUnitIn true_lits c l) clauses

-- the same for the literals up to each level below the present one
abbrev pub NoneFalseBelow : List (List ℤ) → TrailState → Type 0
NoneFalseBelow clauses t = (k : ℕ) → k < t.level → NoneFalse clauses (lits (upto k t.assignments))

abbrev pub NoneUnitBelow : List (List ℤ) → TrailState → Type 0
NoneUnitBelow clauses t = (k : ℕ) → k < t.level → NoneUnit clauses (lits (upto k t.assignments))

-- ---- what propagation does

-- the literals with their levels
abbrev pub marks : List Assignment → List Mark
marks assignments = map (λ p. record { lit = p.lit; level = p.level }) assignments

-- an assignment at the present level whose reason is a clause that is unit where these literals are true
pub record IsForced (clauses : List (List ℤ)) (level : ℕ) (true_lits : List ℤ) (p : Assignment) : Type 0 where
  pub at_level : p.level ≡ level
  pub id : ClauseId
  pub reason : p.reason ≡ Some id
  pub clause : List ℤ
  pub is_clause : IsClauseOf clauses id clause
  pub unit : IsUnitIn true_lits clause p.lit

-- each of these assignments is forced where the literals before it are true
abbrev pub Follow : List (List ℤ) → ℕ → List ℤ → List Assignment → Type 0
Follow clauses level true_lits [] = Unit {0}
Follow clauses level true_lits (p ∷ more) = IsForced clauses level true_lits p × Follow clauses level (true_lits ++ p.lit ∷ []) more

-- the trail has more such assignments at its end, and keeps all else, `low` aside
pub record ExtendsByUnits (clauses : List (List ℤ)) (old new : TrailState) : Type 0 where
  pub more : List Assignment
  pub assignments : new.assignments ≡ old.assignments ++ more
  pub follow : Follow clauses old.level (lits old.assignments) more
  pub vars : new.vars ≡ old.vars
  pub level : new.level ≡ old.level

-- quiet: no clause is false, and none is unit; a conflict: the named clause is false
abbrev pub ScanIs : List (List ℤ) → List ℤ → Scan → Type 0
ScanIs clauses true_lits Quiet = NoneFalse clauses true_lits × NoneUnit clauses true_lits
ScanIs clauses true_lits (Conflict id) = (c : List ℤ) × IsClauseOf clauses id c × IsFalsifiedIn true_lits c
