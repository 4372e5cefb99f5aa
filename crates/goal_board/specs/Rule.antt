-- The rule of the board: its words and the views of its seats are those of a core, which is sound between any two steps. Each step is one event of the core.
use Rattle.std.specs.Prelude.{◌≡◌, ◌≢◌, ◌⊎◌, ℕ, ◌+◌, ◌-◌, ◌*◌, ◌<◌, ◌≤◌, List, length, slice_index, All, Contains, Option, None, Some}
use mathlib.Core.Option.{some}
use lib.ListN.{get_elem?}
use Rattle.atomic_table.specs.Table.{Me, Step}
use Rattle.board_core.specs.declared.entry.Entry.{Entry}
use Rattle.board_core.specs.declared.entry.Source.{Source}
use Rattle.board_core.specs.declared.event.Event.{Event}
use Rattle.board_core.specs.declared.view.GoalMark.{GoalMark}
use Rattle.board_core.specs.History.{kind_of}
use Rattle.board_core.specs.Core.{Core, HasView, mark_of, word_of, fresh_view, initial_core, with_entry, with_mark, with_look, with_all}
use Rattle.board_core.specs.Good.{IsSound, Leads}
use Rattle.goal_board.specs.declared.view.View.{View}
use Rattle.goal_board.specs.declared.view.Terms.{Terms}
use Rattle.goal_facts.specs.Found.{Found, IsOfKind}
use Rattle.goal_board.specs.Lists.{total}

-- the entry's source settles its goal, and the entry has the kind that the source has
abbrev pub IsFound : Terms → Entry → Type 0
IsFound t e = Found t.signals.value.circuit t.signals.value.lits t.options e.source e.goal × (e.kind ≡ kind_of e.source)

-- A live seat has the board's terms, and knows what its caller knows in the core.
pub record Fits (t : Terms) (c : Core) (v : View) : Type 0 where
  pub terms : 0 < v.parts → v.terms ≡ Some t
  pub known : 0 < v.parts → HasView c v.caller v.known
  -- caller 0 makes the others, so it knows how many were made
  pub made : 0 < v.parts → v.caller ≡ 0 → v.made ≡ length c.views

-- live seats have different callers
abbrev pub Apart : List View → Type 0
Apart views = (i j : ℕ) (v u : View) → i ≢ j → get_elem? views i ≡ some v → get_elem? views j ≡ some u → 0 < v.parts → 0 < u.parts → v.caller ≢ u.caller

-- a live seat is of caller k
abbrev pub HasSeat : List View → ℕ → Type 0
HasSeat views k = (i : ℕ) × (v : View) × (get_elem? views i ≡ some v) × (0 < v.parts) × (v.caller ≡ k)

pub record Kept (t : Terms) (words : List ℕ) (views : List View) : Type 0 where
  pub core : Core
  -- each step so far was one event of the core
  pub events : List Event
  pub led : Leads events (initial_core 1 t.goals) core
  pub sound : IsSound core
  pub found : All (IsFound t) core.history
  pub wide : length words ≡ t.goals + 1
  pub goals : length core.marks ≡ t.goals
  pub count : slice_index words 0 ≡ length core.history
  pub marks : (g : ℕ) → g < t.goals → slice_index words (g + 1) ≡ word_of (mark_of core g)
  pub parts : total (λ (v : View). v.parts) views ≡ t.callers
  -- the entries that may still be posted bound the history, so its word never wraps
  pub room : length core.history + total (λ (v : View). v.left) views ≤ 8192
  pub apart : Apart views
  -- each live caller of the core has a seat
  pub seated : (k : ℕ) (known : Rattle.board_core.specs.declared.view.View.View) → HasView core k known → HasSeat views k
  pub each : (i : ℕ) (v : View) → get_elem? views i ≡ some v → Fits t core v

-- the first caller's view when the board is made
abbrev pub first : Terms → View
first t = record { terms = Some t; parts = t.callers; caller = 0; known = fresh_view; made = 1; left = t.callers * t.goals; share = t.goals }

-- a seat that was taken in has nothing
abbrev pub spent : View
spent = record { terms = None; parts = 0; caller = 0; known = fresh_view; made = 0; left = 0; share = 0 }

-- ---- the five kinds of step
abbrev pub numbered : View → Entry → View
numbered v e = record v { known = with_entry v.known e; left = v.left - 1 }

abbrev pub marked : View → ℕ → View
marked v g = record v { known = with_mark v.known g }

abbrev pub looked : View → ℕ → Option GoalMark → View
looked v g mark = record v { known = with_look v.known g mark }

abbrev pub rest_of : View → View
rest_of v = record v { parts = v.parts - 1; made = v.made + 1; left = v.left - v.share }

abbrev pub new_caller : View → View
new_caller v = record { terms = v.terms; parts = 1; caller = v.made; known = fresh_view; made = 0; left = v.share; share = v.share }

-- v takes in w
abbrev pub joined : View → View → View
joined v w = record v { parts = v.parts + w.parts; known = with_all v.known w.known; left = v.left + w.left }

-- the entry that the seat's caller posts with the number n
abbrev pub entry_of : View → ℕ → ℕ → Source → Entry
entry_of v n goal source = record { number = n; caller = v.caller; goal = goal; kind = kind_of source; source = source; low = v.known.front }

-- what the poster needs
pub record MayNumber (t : Terms) (v : View) (goal : ℕ) (source : Source) : Type 0 where
  pub live : 0 < v.parts
  pub left : 0 < v.left
  pub idle : v.known.unmarked ≡ None
  pub range : goal < t.goals
  pub first : All (λ (e : Entry). (e.caller ≢ v.caller) ⊎ (e.goal ≢ goal)) v.known.entries
  pub found : Found t.signals.value.circuit t.signals.value.lits t.options source goal

abbrev pub Sat : Type 0
Sat = Me (Unit {0}) View

-- the number n was drawn for an entry
abbrev pub Numbers : ℕ → Source → Step (Unit {0}) → Sat → ℕ → Sat → Type 0
Numbers goal source s m n w = (m.0.known.front ≤ n) × (n < 8192) × (w ≡ (numbered m.0 (entry_of m.0 n goal source), m.1))

-- the goal of the caller's entry is marked, whatever the word was
abbrev pub Marks : Step (Unit {0}) → Sat → ℕ → Sat → Type 0
Marks s m found w = w ≡ (marked m.0 (s.word - 1), m.1)

-- A goal with no mark isn't one that the caller has seen settled. A mark's kind is true of the circuit.
abbrev pub Tells : View → ℕ → Option GoalMark → Type 0
Tells v g None = ¬ Contains v.known.settled g
Tells v g (Some m) = (t : Terms) → v.terms ≡ Some t → IsOfKind t.signals.value.circuit t.signals.value.lits m.kind g

-- the word is that of the mark that was found
abbrev pub Looks : Step (Unit {0}) → Sat → ℕ → Sat → Type 0
Looks s m word w = (mark : Option GoalMark) × (word ≡ word_of mark) × (w ≡ (looked m.0 (s.word - 1) mark, m.1)) × Tells m.0 (s.word - 1) mark
