-- How a clause is taken in at level 0.
use Rattle.std.specs.Prelude.{◌≡◌, ◌⊎◌, ℕ, Bool, ℤ, nat_abs, Some, List, [], ◌∷◌, ◌++◌, map, Contains, MatchBool}
use Rattle.cnf_base.specs.Status.{IsFalsifiedIn}
use Rattle.sat_trail.specs.declared.clause_id.ClauseId.{ClauseId}
use Rattle.sat_trail.specs.declared.clause_id.ClauseId.TheVariants as ids
use Rattle.sat_trail.specs.Trail.{Assignment, TrailState, lits, with_reason}
use Rattle.sat_watch.specs.Ready.{IsReady}
use Rattle.sat_learn.specs.Reasons.{HasId}
use Rattle.sat_solver.specs.InputClauses.{Store}
use Rattle.sat_solver.specs.Sound.{root, IsSound}

-- the literal of a unit clause with this id was true and rests on the clause now, or it is one more
abbrev pub IsUnitHeld : ℕ → ℤ → TrailState → TrailState → Type 0
IsUnitHeld id l t t' =
    ((reason : ClauseId) × Contains t.assignments (root l reason) × (t' ≡ record t { assignments = map (with_reason (nat_abs l) (ids.Unit id)) t.assignments }))
    ⊎ (t' ≡ record t { assignments = t.assignments ++ record { lit = l; level = t.level; reason = Some (ids.Unit id) } ∷ [] })

-- a clause that has no literal twice goes to the trail if it has one literal, and to the book if it has more
abbrev pub IsPlainHeld : ℕ → List ℤ → Store → Store → Type 0
IsPlainHeld id [] old new = ⊥
IsPlainHeld id (l ∷ []) old new = IsUnitHeld id l old.trail new.trail × (new ≡ record old { trail = new.trail })
IsPlainHeld id (l ∷ m ∷ more) old new =
    new ≡ record old { proof_ids = old.proof_ids ++ id ∷ []; book = record old.book { clauses = old.book.clauses ++ (l ∷ m ∷ more) ∷ [] } }

-- the book and the trail at level 0 stand for the clauses `done`, and propagation may begin
pub record StandsFor (vars : ℕ) (pairs : List (ℕ × List ℤ)) (done : List (List ℤ)) (s : Store) : Type 0 where
  pub sound : IsSound vars pairs done s.proof_ids s.book s.trail
  pub ready : IsReady s.book s.trail
  pub at_root : s.trail.level ≡ 0

-- where they stood for other clauses they stand for this one too, unless it is false
abbrev pub IsHeld : ℕ → List ℤ → Store → Store → Bool → Type 0
IsHeld id clause old new is_false = (vars : ℕ) (pairs : List (ℕ × List ℤ)) (done : List (List ℤ)) → HasId pairs id clause → StandsFor vars pairs done old
    → MatchBool is_false (IsFalsifiedIn (lits new.trail.assignments) clause × StandsFor vars pairs done new) (StandsFor vars pairs (done ++ clause ∷ []) new)
