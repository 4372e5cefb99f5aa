-- How far a formula is loaded.
use Rattle.std.specs.Prelude.{◌≡◌, ℕ, ◌≤◌, cond, ℤ, List, [], ◌∷◌, ◌++◌, length, take, slice_get, Some, All}
use Rattle.std.specs.List.{enumerate_from}
use Rattle.cnf_base.specs.Status.{has, IsFalsifiedIn}
use Rattle.cnf_base.specs.Meaning.{CnfFormula}
use Rattle.sat_trail.specs.declared.clause_id.ClauseId.TheVariants as ids
use Rattle.sat_trail.specs.Trail.{Assignment, TrailState, lits, upto}
use Rattle.sat_watch.specs.Book.{BookState}
use Rattle.sat_learn.specs.declared.premises.Premises.{Premises}
use Rattle.sat_solver.specs.Sound.{IsSound}

abbrev pub RestsOnUnit : Assignment → Type 0
RestsOnUnit p = (id : ℕ) × (p.reason ≡ Some (ids.Unit id))

-- the first clauses of a formula stand in the book and at level 0 of the trail, which nobody has propagated yet
pub record IsLoaded (formula : CnfFormula) (count : ℕ) (proof_ids : List ℕ) (b : BookState) (t : TrailState) : Type 0 where
  pub within : count ≤ length formula.clauses
  pub sound : IsSound formula.vars (enumerate_from 1 formula.clauses) (take count formula.clauses) proof_ids b t
  pub at_root : t.level ≡ 0
  pub all_at_root : upto 0 t.assignments ≡ t.assignments
  pub all_units : All RestsOnUnit t.assignments
  pub low : t.low ≡ 0

-- the clause at a place is false
pub record IsFalsifiedAt (formula : CnfFormula) (t : TrailState) (place : ℕ) : Type 0 where
  pub clause : List ℤ
  pub here : slice_get formula.clauses place ≡ Some clause
  pub refuted : IsFalsifiedIn (lits t.assignments) clause

-- ---- one clause

-- what a formula is loaded into
pub record Store : Type 0 where
  pub proof_ids : List ℕ
  pub book : BookState
  pub trail : TrailState

abbrev pub store : Premises → Store
store p = record { proof_ids = p.proof_ids.items; book = p.book; trail = p.trail }

abbrev pub IsLoadedIn : CnfFormula → ℕ → Store → Type 0
IsLoadedIn formula count s = IsLoaded formula count s.proof_ids s.book s.trail

-- the literal of a unit clause with this id is assigned, unless it is true already
abbrev pub with_unit : ℕ → ℤ → TrailState → TrailState
with_unit id l t =
    cond (has (lits t.assignments) l) t (record t { assignments = t.assignments ++ record { lit = l; level = t.level; reason = Some (ids.Unit id) } ∷ [] })

-- a clause with this id, which has no literal twice, is taken in: a unit by the trail, and a longer one by the book
abbrev pub IsTaken : ℕ → List ℤ → Store → Store → Type 0
IsTaken id [] old new = ⊥
IsTaken id (l ∷ []) old new = new ≡ record old { trail = with_unit id l old.trail }
IsTaken id (l ∷ m ∷ more) old new =
    new ≡ record old { proof_ids = old.proof_ids ++ id ∷ []; book = record old.book { clauses = old.book.clauses ++ (l ∷ m ∷ more) ∷ [] } }
