-- How a book is kept: beside the clauses two watched literals of each, in linked lists, and what was seen of a trail.
use Rattle.std.specs.Prelude.{◌≡◌, ◌≢◌, ℕ, ◌+◌, ◌*◌, ◌^◌, ◌<◌, ◌≤◌, IsTrue, IsFalse, Bool, ℤ, pos, neg_ℤ, Option, Some, List, length, map, take, slice_get, slice_index, slice_index_or, All, ◌⊎◌}
use Rattle.cnf_base.specs.Status.{has, IsSatisfiedIn}
use Rattle.sat_watch.specs.declared.links.Watch.{Watch}
use Rattle.sat_watch.specs.declared.mark.Mark.{Mark}
use Rattle.sat_watch.specs.Book.{BookState, IsBookClause}
use Rattle.sat_watch.specs.Links.{watch_lits, AreLinked}

-- ---- two literals of each clause

-- two different literals of the clause
pub record IsPair (clause : List ℤ) (first second : ℤ) : Type 0 where
  pub first_in : IsTrue (has clause first)
  pub second_in : IsTrue (has clause second)
  pub differ : first ≢ second

-- the clause has a true literal, or these falsify neither of the two
abbrev pub IsWatched : List ℤ → List ℤ → List ℤ → ℤ → ℤ → Type 0
IsWatched true_lits looked_at clause first second = IsSatisfiedIn true_lits clause ⊎ (IsFalse (has looked_at (neg_ℤ first)) × IsFalse (has looked_at (neg_ℤ second)))

-- the two watched literals of the clause at a place, in the list of all
abbrev pub first_lit : List ℤ → ℕ → ℤ
first_lit watched place = slice_index_or watched (2 * place) (pos 0)

abbrev pub second_lit : List ℤ → ℕ → ℤ
second_lit watched place = slice_index_or watched (2 * place + 1) (pos 0)

-- each clause and its two watched literals
abbrev pub Each : (List ℤ → ℤ → ℤ → Type 0) → List (List ℤ) → List ℤ → Type 0
Each R clauses watched = (place : ℕ) (clause : List ℤ) → slice_get clauses place ≡ Some clause → R clause (first_lit watched place) (second_lit watched place)

-- the same of those before a place, and from a place on
abbrev pub EachBefore : ℕ → (List ℤ → ℤ → ℤ → Type 0) → List (List ℤ) → List ℤ → Type 0
EachBefore end R clauses watched = (place : ℕ) (clause : List ℤ) → place < end → slice_get clauses place ≡ Some clause → R clause (first_lit watched place) (second_lit watched place)

abbrev pub EachFrom : ℕ → (List ℤ → ℤ → ℤ → Type 0) → List (List ℤ) → List ℤ → Type 0
EachFrom from R clauses watched = (place : ℕ) (clause : List ℤ) → from ≤ place → slice_get clauses place ≡ Some clause → R clause (first_lit watched place) (second_lit watched place)

-- two watches for each clause, few enough for their numbers, and a list for each literal
pub record AreSized (vars : ℕ) (clauses : List (List ℤ)) (heads : List (Option ℕ)) (watches : List Watch) : Type 0 where
  pub heads_room : length heads ≡ 2 * vars + 2
  pub two_each : length watches ≡ 2 * length clauses
  pub few : length watches + 1 < 2 ^ 32

-- ---- what was seen of a trail

abbrev pub mark_lits : List Mark → List ℤ
mark_lits seen = map (λ m. m.lit) seen

abbrev pub mark_levels : List Mark → List ℕ
mark_levels seen = map (λ m. m.level) seen

-- the place is the first one of its level
abbrev pub BeginsLevel : List Mark → ℕ → Type 0
BeginsLevel seen place = (j : ℕ) → j < place → slice_index (mark_levels seen) j < slice_index (mark_levels seen) place

-- levels never fall
abbrev pub IsRising : List Mark → Type 0
IsRising seen = (i j : ℕ) → i ≤ j → j < length seen → slice_index (mark_levels seen) i ≤ slice_index (mark_levels seen) j

-- where a look may start: at the front, at the first place of a level, or, if all was quiet, past all that was seen
abbrev pub IsStart : List Mark → Bool → ℕ → Type 0
IsStart seen quiet start = (start ≡ 0) ⊎ (((start < length seen) × BeginsLevel seen start) ⊎ (IsTrue quiet × (length seen ≤ start)))

pub record IsKept (b : BookState) (heads : List (Option ℕ)) (watches : List Watch) (all_seen : List Mark) (count watched_count : ℕ) (quiet : Bool) : Type 0 where
  pub few_vars : b.vars ≤ 4000000
  pub clauses : All (IsBookClause b.vars) b.clauses
  pub sizes : AreSized b.vars b.clauses heads watches
  pub seen_room : length all_seen ≡ b.vars
  pub number : count ≤ b.vars
  pub watched_some : watched_count ≤ length b.clauses
  pub rising : IsRising b.seen
  pub linked : AreLinked heads watches
  pub pairs : Each IsPair b.clauses (watch_lits watches)
  -- the clauses that were looked at are watched where the literals before a level are true, for each level that was seen
  pub watched_before : (place : ℕ) → place < length b.seen → BeginsLevel b.seen place
      → EachBefore watched_count (IsWatched (take place (mark_lits b.seen)) (take place (mark_lits b.seen))) b.clauses (watch_lits watches)
  -- and after Quiet under all that was seen
  pub watched_whole : IsTrue quiet → EachBefore watched_count (IsWatched (mark_lits b.seen) (mark_lits b.seen)) b.clauses (watch_lits watches)
