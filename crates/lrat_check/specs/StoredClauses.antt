-- How the live clauses are kept: entries with rising ids over one arena of literals.
use Rattle.std.specs.Prelude.{ℕ, ◌<◌, ◌≤◌, Bool, true, false, cond, ◌&&◌, ◌||◌, eqb, ℤ, List, [], ◌∷◌, length, slice_range, map, All, AllPairs, Option, Some, None}
use Rattle.std.specs.List.{list_any}
use Rattle.lrat_check.specs.declared.store.Entry.{Entry}

-- the literals of an entry
abbrev pub literals_of : List ℤ → Entry → List ℤ
literals_of arena e = slice_range arena e.start e.end

-- the live clauses, in the order of the entries
abbrev pub live_of : List ℤ → List Entry → List (ℕ × List ℤ)
live_of arena [] = []
live_of arena (e ∷ es) = cond e.alive ((e.id, literals_of arena e) ∷ live_of arena es) (live_of arena es)

-- an entry's literals lie in an arena of this length
abbrev pub IsInside : ℕ → Entry → Type 0
IsInside n e = (e.start ≤ e.end) × (e.end ≤ n)

-- each id is below all later ones
abbrev pub IsRising : List Entry → Type 0
IsRising es = AllPairs (λ (a : Entry) (b : Entry). a.id < b.id) es

pub record IsStore (arena : List ℤ) (entries : List Entry) (greatest : ℕ) : Type 0 where
  pub inside : All (IsInside (length arena)) entries
  pub rising : IsRising entries
  pub up_to : All (λ (e : Entry). e.id ≤ greatest) entries

-- whether an entry of this id is alive
abbrev pub is_alive : List Entry → ℕ → Bool
is_alive [] id = false
is_alive (e ∷ es) id = (eqb e.id id && e.alive) || is_alive es id

-- an entry, dead where it is that of the id
abbrev pub killed : ℕ → Entry → Entry
killed id e = cond (eqb e.id id) (record e { alive = false }) e

abbrev pub killed_all : List Entry → List ℕ → List Entry
killed_all es [] = es
killed_all es (id ∷ ids) = killed_all (map (killed id) es) ids

-- the first id in turn whose entry is not alive, where the earlier ones are dead by then
abbrev pub first_dead : List Entry → List ℕ → Option ℕ
first_dead es [] = None
first_dead es (id ∷ ids) = cond (is_alive es id) (first_dead (map (killed id) es) ids) (Some id)

-- an entry, alive where it is that of the id
abbrev pub revived : ℕ → Entry → Entry
revived id e = cond (eqb e.id id) (record e { alive = true }) e

-- an entry, alive where its id is one of these
abbrev pub revived_by : List ℕ → Entry → Entry
revived_by ids e = cond (list_any (eqb e.id) ids) (record e { alive = true }) e
