-- How the clauses of a proof stand in a book and on a trail.
use Rattle.std.specs.Prelude.{◌≡◌, ℕ, ◌<◌, ◌^◌, ℤ, Some, List, [], ◌∷◌, length, All, Contains, ◌⊎◌}
use Rattle.lrat_text.specs.Accepted.{IsBothWays}
use Rattle.lrat_text.specs.Spent.{SameLiterals}
use Rattle.sat_trail.specs.declared.clause_id.ClauseId.{ClauseId}
use Rattle.sat_trail.specs.declared.clause_id.ClauseId.TheVariants as ids
use Rattle.sat_trail.specs.Trail.{Assignment, TrailState}
use Rattle.sat_watch.specs.Book.{BookState}
use Rattle.sat_learn.specs.Reasons.{AreReasons, HaveIds}

-- a literal of level 0 that rests on this clause
abbrev pub root : ℤ → ClauseId → Assignment
root l id = record { lit = l; level = 0; reason = Some id }

-- a clause has a literal both ways, or only one literal, which stands at level 0 and rests on a unit clause, or the
-- literals of a clause of the book
abbrev pub IsCovered : List (List ℤ) → List Assignment → List ℤ → Type 0
IsCovered clauses assignments clause =
    IsBothWays clause
    ⊎ (((l : ℤ) × (id : ℕ) × SameLiterals clause (l ∷ []) × Contains assignments (root l (ids.Unit id)))
    ⊎ ((held : List ℤ) × Contains clauses held × SameLiterals clause held))

-- the book and the trail stand for the clauses `done`; the live clauses of the proof have these ids
pub record IsSound (vars : ℕ) (live : List (ℕ × List ℤ)) (done : List (List ℤ)) (proof_ids : List ℕ) (b : BookState) (t : TrailState) : Type 0 where
  pub book_vars : b.vars ≡ vars
  pub trail_vars : t.vars ≡ vars
  pub reasons : AreReasons b.clauses [] t.assignments
  pub has_id : HaveIds live b.clauses proof_ids t.assignments
  pub one_id : length proof_ids ≡ length b.clauses
  pub small_ids : All (λ name. name < 2 ^ 62) proof_ids
  pub covered : (clause : List ℤ) → Contains done clause → IsCovered b.clauses t.assignments clause
