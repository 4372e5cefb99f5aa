-- The first fault of a history, and what a history without one tells.
use Rattle.std.specs.Prelude.{◌≡◌, ◌≢◌, ℕ, ◌<◌, ◌≤◌, List, length, take, slice_get, Contains, Option, None, Some}
use Rattle.aig_model.specs.declared.parts.Kind.{Kind}
use Rattle.sim_walk.specs.declared.options.Options.{Options}
use Rattle.board_core.specs.declared.entry.Entry.{Entry}
use Rattle.board_core.specs.declared.event.Verdict.{Verdict}
use Rattle.board_core.specs.declared.event.Verdict.TheVariants as verdicts
use Rattle.board_core.specs.declared.fault.HistoryKind.{HistoryKind}
use Rattle.board_core.specs.declared.fault.HistoryKind.TheVariants as kinds
use Rattle.board_core.specs.History.{IsInRange, kind_of, verdict_of}

-- ---- faults
-- an entry before has this caller and goal
abbrev pub HasPosted : List Entry → ℕ → ℕ → Type 0
HasPosted before caller goal = (e : Entry) × Contains before e × (e.caller ≡ caller) × (e.goal ≡ goal)

-- the goal's first entry is of another kind
abbrev pub Disagrees : Option Kind → Kind → Type 0
Disagrees None kind = ⊥
Disagrees (Some first) kind = first ≢ kind

-- the entry has this fault, after the entries before it
abbrev pub HasFault : Options → ℕ → List Entry → Entry → HistoryKind → Type 0
HasFault o goals before e kinds.Number = e.number ≢ length before
HasFault o goals before e kinds.Caller = 8 ≤ e.caller
HasFault o goals before e kinds.Goal = goals ≤ e.goal
HasFault o goals before e kinds.Low = e.number < e.low
HasFault o goals before e kinds.Source = ¬ (IsInRange o e.source × (e.kind ≡ kind_of e.source))
HasFault o goals before e kinds.Twice = HasPosted before e.caller e.goal
HasFault o goals before e kinds.Kind = Disagrees (verdict_of before e.goal) e.kind

-- the order in which the faults of one entry are tried
abbrev pub order : HistoryKind → ℕ
order kinds.Number = 0
order kinds.Caller = 1
order kinds.Goal = 2
order kinds.Low = 3
order kinds.Source = 4
order kinds.Twice = 5
order kinds.Kind = 6

-- the entry's first fault
pub record IsFirstFault (o : Options) (goals : ℕ) (before : List Entry) (e : Entry) (kind : HistoryKind) : Type 0 where
  pub here : HasFault o goals before e kind
  pub earlier : (other : HistoryKind) → order other < order kind → ¬ HasFault o goals before e other

-- the entry has no fault
abbrev pub IsFaultless : Options → ℕ → List Entry → Entry → Type 0
IsFaultless o goals before e = (kind : HistoryKind) → ¬ HasFault o goals before e kind

-- the history's first fault: the entry at this place has it first, and no entry before has one
pub record IsFaultAt (o : Options) (goals : ℕ) (es : List Entry) (at : ℕ) (kind : HistoryKind) : Type 0 where
  pub entry : Entry
  pub place : slice_get es at ≡ Some entry
  pub fault : IsFirstFault o goals (take at es) entry kind
  pub before : (k : ℕ) (e : Entry) → k < at → slice_get es k ≡ Some e → IsFaultless o goals (take k es) e

-- ---- verdicts
abbrev pub settled_by : Option Kind → Verdict
settled_by None = verdicts.Pending
settled_by (Some kind) = verdicts.Settled kind

-- one verdict a goal: the kind of its first entry
pub record AreVerdicts (es : List Entry) (goals : ℕ) (vs : List Verdict) : Type 0 where
  pub count : length vs ≡ goals
  pub each : (g : ℕ) → g < goals → slice_get vs g ≡ Some (settled_by (verdict_of es g))

-- the verdict after one more entry of this kind
abbrev pub first_verdict : Verdict → Kind → Verdict
first_verdict verdicts.Pending kind = verdicts.Settled kind
first_verdict (verdicts.Settled first) kind = verdicts.Settled first
