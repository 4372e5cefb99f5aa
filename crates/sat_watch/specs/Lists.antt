-- The lists of watches as others see them: for each literal the clauses that watch it.
use Rattle.std.specs.Prelude.{◌≡◌, ◌≢◌, ℕ, ◌+◌, ◌*◌, ◌/◌, ◌^◌, ◌<◌, ◌⊎◌, ℤ, Option, Some, List, ◌∷◌, ◌++◌, length, map, slice_get, Contains}
use Rattle.sat_trail.specs.declared.clause_id.ClauseId.{ClauseId}
use Rattle.sat_trail.specs.declared.clause_id.ClauseId.TheVariants as ids
use Rattle.sat_watch.specs.declared.links.Watch.{Watch}
use Rattle.sat_watch.specs.Book.{BookState}
use Rattle.sat_watch.specs.Kept.{IsPair}
use Rattle.sat_watch.specs.Links.{watch_lits, watchers, AreLinked}

-- the variables are 1 up to vars; the first watch of each literal, and two watches for each clause
pub record WatchState : Type 0 where
  pub vars : ℕ
  pub heads : List (Option ℕ)
  pub watches : List Watch

-- the clause of a watch
abbrev pub clause_of : ℕ → ClauseId
clause_of w = ids.Book (w / 2)

-- the clauses that watch a literal, in the order of its list
abbrev pub watching : WatchState → ℤ → List ClauseId
watching s l = map clause_of (watchers s.heads s.watches l)

-- the clause watches these two literals
abbrev pub Watches : WatchState → ClauseId → ℤ → ℤ → Type 0
Watches s (ids.Book place) a b = (slice_get (watch_lits s.watches) (2 * place) ≡ Some a) × (slice_get (watch_lits s.watches) (2 * place + 1) ≡ Some b)
Watches s (ids.Unit number) a b = ⊥

-- each watch stands in its literal's list, and a clause watches two different literals
pub record AreLists (s : WatchState) : Type 0 where
  pub heads_room : length s.heads ≡ 2 * s.vars + 2
  pub linked : AreLinked s.heads s.watches
  pub differ : (id : ClauseId) (a b : ℤ) → Watches s id a b → a ≢ b
  pub paired : (n : ℕ) × (length s.watches ≡ 2 * n)
  pub few : length s.watches + 1 < 2 ^ 32

-- the lists are those of a book: each of its clauses watches two of its literals, and there are no other clauses
pub record AreListsOf (b : BookState) (s : WatchState) : Type 0 where
  pub vars : s.vars ≡ b.vars
  pub two_each : length s.watches ≡ 2 * length b.clauses
  pub pairs : (place : ℕ) (clause : List ℤ) → slice_get b.clauses place ≡ Some clause → (a b : ℤ) × Watches s (ids.Book place) a b × IsPair clause a b

-- the clause stands in the list of a literal exactly where it watches it
abbrev pub StandsWhereWatched : WatchState → Type 0
StandsWhereWatched s = (id : ClauseId) (l : ℤ) → Contains (watching s l) id → (other : ℤ) × (Watches s id l other ⊎ Watches s id other l)

abbrev pub WatchedStands : WatchState → Type 0
WatchedStands s = (id : ClauseId) (a b : ℤ) → Watches s id a b → Contains (watching s a) id × Contains (watching s b) id

-- and once
abbrev pub StandsOnce : WatchState → Type 0
StandsOnce s = (l : ℤ) (id : ClauseId) (before after : List ClauseId) → watching s l ≡ before ++ id ∷ after → (¬ Contains before id) × (¬ Contains after id)
