-- What holds of a core at every moment.
use Rattle.std.specs.Prelude.{◌≡◌, ◌≢◌, ◌⊎◌, ℕ, ◌<◌, ◌≤◌, cond, List, [], ◌∷◌, length, slice_get, sum_by, count_by, nat_eq, nat_lt, All, Contains, Option, Some, None}
use Rattle.std.specs.List.{AllByRecursion}
use Rattle.aig_model.specs.declared.parts.Kind.{Kind}
use Rattle.board_core.specs.declared.entry.Entry.{Entry}
use Rattle.board_core.specs.declared.entry.Source.{Source}
use Rattle.board_core.specs.declared.view.GoalMark.{GoalMark}
use Rattle.board_core.specs.declared.view.View.{View}
use Rattle.board_core.specs.declared.event.Event.{Event}
use Rattle.board_core.specs.declared.event.Event.TheVariants as events
use Rattle.board_core.specs.Core.{Core, HasView, IsStep, initial_core}

abbrev pub IsEntry : List Entry → ℕ → Entry → Type 0
IsEntry history n e = slice_get history n ≡ Some e

-- the goal has a mark
abbrev pub IsMarked : List (Option GoalMark) → ℕ → Type 0
IsMarked marks g = (m : GoalMark) × (slice_get marks g ≡ Some (Some m))

-- the entry n by itself, of so many callers and goals
pub record IsPosted (callers goals n : ℕ) (e : Entry) : Type 0 where
  pub number : e.number ≡ n
  pub caller : e.caller < callers
  pub goal : e.goal < goals
  pub low : e.low ≤ n

-- the mark of a goal names an entry for it, of this kind
pub record IsNamed (history : List Entry) (g : ℕ) (m : GoalMark) : Type 0 where
  pub entry : Entry
  pub place : IsEntry history m.number entry
  pub goal : entry.goal ≡ g
  pub kind : entry.kind ≡ m.kind

-- what the live caller k knows
pub record Knows (history : List Entry) (marks : List (Option GoalMark)) (k : ℕ) (v : View) : Type 0 where
  pub known : (e : Entry) → Contains v.entries e → IsEntry history e.number e
  pub own : (n : ℕ) (e : Entry) → IsEntry history n e → e.caller ≡ k → Contains v.entries e
  pub settled : (g : ℕ) → Contains v.settled g → IsMarked marks g
  pub marked : (n : ℕ) (e : Entry) → IsEntry history n e → e.caller ≡ k → (v.unmarked ≡ Some e) ⊎ IsMarked marks e.goal
  pub unmarked : (e : Entry) → v.unmarked ≡ Some e → Contains v.entries e × (e.caller ≡ k)
  pub front : v.front ≤ length history
  pub above : (n : ℕ) (e : Entry) → IsEntry history n e → e.caller ≡ k → n < v.front

abbrev pub entries_of : Option View → List Entry
entries_of None = []
entries_of (Some v) = v.entries

-- how often an entry of this number stands in all views together
abbrev pub times : ℕ → List (Option View) → ℕ
times n views = sum_by (λ o. count_by (λ (e : Entry). nat_eq e.number n) (entries_of o)) views

-- Entries are numbered by their places, and each stands in one view, its caller's while that is live. No two
-- have the same caller and goal, and each caller had seen its earlier ones. Marks name entries. What is settled,
-- and what was posted and isn't its live caller's unmarked entry, is marked.
pub record IsSound (c : Core) : Type 0 where
  pub few : length c.views ≤ 8
  pub posted : (n : ℕ) (e : Entry) → IsEntry c.history n e → IsPosted (length c.views) (length c.marks) n e
  pub apart : (m n : ℕ) (e f : Entry) → m < n → IsEntry c.history m e → IsEntry c.history n f → e.caller ≡ f.caller → (e.goal ≢ f.goal) × (m < f.low)
  pub once : (n : ℕ) → times n c.views ≡ cond (nat_lt n (length c.history)) 1 0
  pub named : (g : ℕ) (m : GoalMark) → slice_get c.marks g ≡ Some (Some m) → IsNamed c.history g m
  pub knows : (k : ℕ) (v : View) → HasView c k v → Knows c.history c.marks k v
  pub left : (n : ℕ) (e : Entry) → IsEntry c.history n e → slice_get c.views e.caller ≡ Some None → IsMarked c.marks e.goal

-- ---- facts
-- what a source is known to say of a goal
pub record Fact : Type 0 where
  pub goal : ℕ
  pub kind : Kind
  pub source : Source

abbrev pub fact_of : Entry → Fact
fact_of e = record { goal = e.goal; kind = e.kind; source = e.source }

-- facts on one goal agree in kind
abbrev pub Agree : List Fact → Type 0
Agree facts = (f h : Fact) → Contains facts f → Contains facts h → f.goal ≡ h.goal → f.kind ≡ h.kind

-- a core each entry of which is a fact
pub record Good (c : Core) (facts : List Fact) : Type 0 where
  pub sound : IsSound c
  pub found : All (λ (e : Entry). Contains facts (fact_of e)) c.history

-- what is posted is a fact
abbrev pub IsFact : List Fact → Event → Type 0
IsFact facts (events.Number k g kind source) = Contains facts (record { goal = g; kind = kind; source = source })
IsFact facts (events.Mark k) = Unit {0}
IsFact facts (events.Look k g) = Unit {0}
IsFact facts (events.Split k) = Unit {0}
IsFact facts (events.Join k j) = Unit {0}

-- ---- laws
-- a core in which nothing has happened is good
abbrev pub InitialIsGood : Type 0
InitialIsGood = (facts : List Fact) (callers goals : ℕ) → callers ≤ 8 → Good (initial_core callers goals) facts

-- every event keeps a core good, for every list of facts
abbrev pub StaysGood : Type 0
StaysGood = (facts : List Fact) (c d : Core) (event : Event) → Good c facts → IsFact facts event → IsStep c event d → Good d facts

-- the events one after another, each of which may happen
abbrev pub Leads : List Event → Core → Core → Type 0
Leads [] c d = c ≡ d
Leads (event ∷ events) c d = (b : Core) × IsStep c event b × Leads events b d

-- so does every list of events
abbrev pub StaysGoodAlong : Type 0
StaysGoodAlong = (facts : List Fact) (events : List Event) (c d : Core) → Good c facts → AllByRecursion (IsFact facts) events → Leads events c d → Good d facts

-- in a good core entries of one goal agree in kind, where the facts do
abbrev pub KindsAgree : Type 0
KindsAgree = (facts : List Fact) (c : Core) (m n : ℕ) (e f : Entry) → Agree facts → Good c facts → IsEntry c.history m e → IsEntry c.history n f → e.goal ≡ f.goal → e.kind ≡ f.kind
