-- The core of a board: its history, the marks of the goals, what its callers know, and the events that change it.
use Rattle.std.specs.Prelude.{◌≡◌, ◌≢◌, ◌⊎◌, ℕ, ◌+◌, ◌*◌, ◌<◌, max, min, List, [], ◌∷◌, ◌++◌, length, replicate, slice_get, slice_set, get_or, All, Option, Some, None}
use Rattle.aig_model.specs.declared.parts.Kind.{Kind}
use Rattle.aig_model.specs.declared.parts.Kind.TheVariants as kinds
use Rattle.board_core.specs.declared.entry.Entry.{Entry}
use Rattle.board_core.specs.declared.entry.Source.{Source}
use Rattle.board_core.specs.declared.view.GoalMark.{GoalMark}
use Rattle.board_core.specs.declared.view.View.{View}
use Rattle.board_core.specs.declared.event.Event.{Event}
use Rattle.board_core.specs.declared.event.Event.TheVariants as events
use Rattle.board_core.specs.declared.event.Reply.{Reply}
use Rattle.board_core.specs.declared.event.Reply.TheVariants as replies
use Rattle.board_core.specs.declared.event.Verdict.{Verdict}
use Rattle.board_core.specs.declared.event.Verdict.TheVariants as verdicts

-- the entries in order of number, a mark for each settled goal, and the view of each caller made so far; of a spent one nothing
pub record Core : Type 0 where
  pub history : List Entry
  pub marks : List (Option GoalMark)
  pub views : List (Option View)

abbrev pub core_of : List Entry → List (Option GoalMark) → List (Option View) → Core
core_of history marks views = record { history = history; marks = marks; views = views }

-- caller k is live, and this is its view
abbrev pub HasView : Core → ℕ → View → Type 0
HasView c k v = slice_get c.views k ≡ Some (Some v)

abbrev pub mark_of : Core → ℕ → Option GoalMark
mark_of c g = get_or c.marks g None

abbrev pub kind_number : Kind → ℕ
kind_number kinds.Reached = 0
kind_number kinds.Unreachable = 1

-- the word of a goal, as one number: 0 while it is pending
abbrev pub word_of : Option GoalMark → ℕ
word_of None = 0
word_of (Some m) = 4 * (m.number + 1) + kind_number m.kind

abbrev pub fresh_view : View
fresh_view = record { entries = []; settled = []; front = 0; unmarked = None; looks = 0; last = None }

-- callers that know nothing, and goals that are pending
abbrev pub initial_core : ℕ → ℕ → Core
initial_core callers goals = record { history = []; marks = replicate goals None; views = replicate callers (Some fresh_view) }

-- ---- what an event needs
-- the goal is in range; the caller is live, has marked what it posted, and posts for the goal for the first time
pub record CanNumber (c : Core) (k g : ℕ) : Type 0 where
  pub range : g < length c.marks
  pub view : View
  pub live : HasView c k view
  pub idle : view.unmarked ≡ None
  pub first : All (λ (e : Entry). (e.caller ≢ k) ⊎ (e.goal ≢ g)) view.entries

-- the caller has an unmarked entry
pub record CanMark (c : Core) (k : ℕ) : Type 0 where
  pub view : View
  pub live : HasView c k view
  pub entry : Entry
  pub unmarked : view.unmarked ≡ Some entry

pub record CanLook (c : Core) (k g : ℕ) : Type 0 where
  pub range : g < length c.marks
  pub view : View
  pub live : HasView c k view

-- caller 0 alone splits, while fewer than 8 callers were made
pub record CanSplit (c : Core) (k : ℕ) : Type 0 where
  pub caller : k ≡ 0
  pub view : View
  pub live : HasView c k view
  pub room : length c.views < 8

-- both are live; the one that ends isn't caller 0 and has no unmarked entry
pub record CanJoin (c : Core) (k j : ℕ) : Type 0 where
  pub apart : k ≢ j
  pub not_first : k ≢ 0
  pub from : View
  pub from_live : HasView c k from
  pub idle : from.unmarked ≡ None
  pub into : View
  pub into_live : HasView c j into

abbrev pub Needs : Core → Event → Type 0
Needs c (events.Number k g kind source) = CanNumber c k g
Needs c (events.Mark k) = CanMark c k
Needs c (events.Look k g) = CanLook c k g
Needs c (events.Split k) = CanSplit c k
Needs c (events.Join k j) = CanJoin c k j

-- ---- what it changes
-- the entry that a caller with this view posts
abbrev pub next_entry : Core → ℕ → View → ℕ → Kind → Source → Entry
next_entry c k v g kind source = record { number = length c.history; caller = k; goal = g; kind = kind; source = source; low = v.front }

abbrev pub with_entry : View → Entry → View
with_entry v e = record v { entries = v.entries ++ e ∷ []; front = e.number + 1; unmarked = Some e }

abbrev pub with_mark : View → ℕ → View
with_mark v g = record v { settled = v.settled ++ g ∷ []; unmarked = None }

-- one more, up to the end of 64 bits
abbrev pub count_up : ℕ → ℕ
count_up n = min (n + 1) 18446744073709551615

-- a look that finds a mark has seen the history up to its entry
abbrev pub with_look : View → ℕ → Option GoalMark → View
with_look v g None = record v { looks = count_up v.looks; last = Some (record { goal = g; mark = None }) }
with_look v g (Some m) = record v { settled = v.settled ++ g ∷ []; front = max v.front (m.number + 1); looks = count_up v.looks; last = Some (record { goal = g; mark = Some m }) }

abbrev pub with_all : View → View → View
with_all v w = record v { entries = v.entries ++ w.entries; settled = v.settled ++ w.settled; front = max v.front w.front }

abbrev pub mark_by : Entry → GoalMark
mark_by e = record { number = e.number; kind = e.kind }

-- a goal keeps its first mark
abbrev pub first_mark : Option GoalMark → GoalMark → GoalMark
first_mark None m = m
first_mark (Some old) m = old

abbrev pub numbered : Core → ℕ → View → Entry → Core
numbered c k v e = record { history = c.history ++ e ∷ []; marks = c.marks; views = slice_set c.views k (Some (with_entry v e)) }

abbrev pub marked : Core → ℕ → View → Entry → Core
marked c k v e = record {
  history = c.history;
  marks = slice_set c.marks e.goal (Some (first_mark (mark_of c e.goal) (mark_by e)));
  views = slice_set c.views k (Some (with_mark v e.goal));
}

abbrev pub looked : Core → ℕ → View → ℕ → Core
looked c k v g = record { history = c.history; marks = c.marks; views = slice_set c.views k (Some (with_look v g (mark_of c g))) }

abbrev pub split : Core → Core
split c = record { history = c.history; marks = c.marks; views = c.views ++ Some fresh_view ∷ [] }

abbrev pub joined : Core → ℕ → View → ℕ → View → Core
joined c k v j w = record { history = c.history; marks = c.marks; views = slice_set (slice_set c.views k None) j (Some (with_all w v)) }

-- the core after an event
abbrev pub After : (c : Core) (e : Event) → Needs c e → Core → Type 0
After c (events.Number k g kind source) can d = d ≡ numbered c k can.view (next_entry c k can.view g kind source)
After c (events.Mark k) can d = d ≡ marked c k can.view can.entry
After c (events.Look k g) can d = d ≡ looked c k can.view g
After c (events.Split k) can d = d ≡ split c
After c (events.Join k j) can d = d ≡ joined c k can.from j can.into

-- the event may happen, and leads from the one core to the other
pub record IsStep (c : Core) (e : Event) (d : Core) : Type 0 where
  pub can : Needs c e
  pub after : After c e can d

-- ---- what it answers
abbrev pub verdict_by : Option GoalMark → Verdict
verdict_by None = verdicts.Pending
verdict_by (Some m) = verdicts.Settled m.kind

abbrev pub reply_to : Core → Event → Reply
reply_to c (events.Number k g kind source) = replies.Numbered (length c.history)
reply_to c (events.Mark k) = replies.Marked
reply_to c (events.Look k g) = replies.Seen (verdict_by (mark_of c g))
reply_to c (events.Split k) = replies.Split (length c.views)
reply_to c (events.Join k j) = replies.Joined
