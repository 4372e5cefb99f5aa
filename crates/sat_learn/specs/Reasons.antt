-- What each literal of a trail rests on, and under which ids a proof has the clauses.
use Rattle.std.specs.Prelude.{◌≡◌, ℕ, ◌<◌, ◌^◌, ℤ, pos, Option, Some, None, List, [], ◌∷◌, ◌++◌, slice_get, slice_index, Contains}
use Rattle.std.specs.List.{AllByRecursion}
use Rattle.cnf_base.specs.Status.{IsUnitIn}
use Rattle.lrat_text.specs.Accepted.{Ends}
use Rattle.lrat_text.specs.Standing.{clause_at}
use Rattle.lrat_text.specs.Spent.{SameLiterals}
use Rattle.sat_trail.specs.declared.clause_id.ClauseId.{ClauseId}
use Rattle.sat_trail.specs.declared.clause_id.ClauseId.TheVariants as ids
use Rattle.sat_trail.specs.Trail.{Assignment}

-- a literal's reason: a clause of the book that was unit there, or a unit clause under its id in the proof
abbrev pub IsReason : List (List ℤ) → List ℤ → ℤ → Option ClauseId → Type 0
IsReason clauses before l None = Unit {0}
IsReason clauses before l (Some (ids.Book place)) = (clause : List ℤ) × (slice_get clauses place ≡ Some clause) × IsUnitIn before clause l
IsReason clauses before l (Some (ids.Unit id)) = id < 2 ^ 62

-- each of these assignments has such a reason where the literals before it are true
abbrev pub AreReasons : List (List ℤ) → List ℤ → List Assignment → Type 0
AreReasons clauses before [] = Unit {0}
AreReasons clauses before (p ∷ more) = IsReason clauses before p.lit p.reason × AreReasons clauses (before ++ p.lit ∷ []) more

-- a clause that lives in the proof under this id has these literals
abbrev pub HasId : List (ℕ × List ℤ) → ℕ → List ℤ → Type 0
HasId live id lits = (clause : List ℤ) × (clause_at live id ≡ Some clause) × SameLiterals clause lits

-- a hint names a clause that lives in the proof
abbrev pub IsLiveHint : List (ℕ × List ℤ) → ℤ → Type 0
IsLiveHint live hint = (id : ℕ) × (hint ≡ pos id) × (clause : List ℤ) × (clause_at live id ≡ Some clause)

-- the hints end at a clause that is false, and each of them names a clause that lives in the proof
pub record Follows (live : List (ℕ × List ℤ)) (assumed hints : List ℤ) : Type 0 where
  pub ends : Ends live assumed hints
  pub live_hints : AllByRecursion (IsLiveHint live) hints

-- the clauses of the book live under these ids, one for each index, and a unit clause that is a reason has its literal alone
pub record HaveIds (live : List (ℕ × List ℤ)) (clauses : List (List ℤ)) (proof_ids : List ℕ) (assignments : List Assignment) : Type 0 where
  pub book : (place : ℕ) (clause : List ℤ) → slice_get clauses place ≡ Some clause → HasId live (slice_index proof_ids place) clause
  pub units : (p : Assignment) (id : ℕ) → Contains assignments p → p.reason ≡ Some (ids.Unit id) → HasId live id (p.lit ∷ [])
