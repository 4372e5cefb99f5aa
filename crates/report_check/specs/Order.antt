-- The order in which a report's conditions are tried: part by part, in a part place by place, and at a place kind by kind.
use Rattle.std.specs.Prelude.{◌≡◌, ◌⊎◌, ◌<◌, ℕ}
use Rattle.board_core.specs.declared.fault.HistoryKind.{HistoryKind}
use Rattle.board_core.specs.declared.fault.HistoryKind.TheVariants as history
use Rattle.report_check.specs.declared.fault.Part.{Part}
use Rattle.report_check.specs.declared.fault.Part.TheVariants as parts
use Rattle.report_check.specs.declared.fault.CheckKind.{CheckKind}
use Rattle.report_check.specs.declared.fault.CheckKind.TheVariants as kinds

abbrev pub part_order : Part → ℕ
part_order parts.Size = 0
part_order parts.History = 1
part_order parts.Seed = 2
part_order parts.Inv = 3
part_order parts.Goal = 4
part_order parts.Spent = 5
part_order parts.Refute = 6
part_order parts.End = 7

abbrev pub kind_order : CheckKind → ℕ
kind_order kinds.Differs = 0
kind_order kinds.Options = 1
kind_order kinds.Number = 2
kind_order kinds.Caller = 3
kind_order kinds.Goal = 4
kind_order kinds.Low = 5
kind_order kinds.Source = 6
kind_order kinds.Twice = 7
kind_order kinds.Kind = 8
kind_order kinds.Start = 9
kind_order kinds.Kept = 10
kind_order kinds.Count = 11
kind_order kinds.Verdict = 12
kind_order kinds.Trace = 13
kind_order kinds.Inv = 14
kind_order kinds.Excludes = 15
kind_order kinds.Bound = 16
kind_order kinds.Query = 17
kind_order kinds.Proof = 18
kind_order kinds.Missing = 19
kind_order kinds.Counts = 20

-- the condition that a fault of an entry breaks
abbrev pub kind_of_fault : HistoryKind → CheckKind
kind_of_fault history.Number = kinds.Number
kind_of_fault history.Caller = kinds.Caller
kind_of_fault history.Goal = kinds.Goal
kind_of_fault history.Low = kinds.Low
kind_of_fault history.Source = kinds.Source
kind_of_fault history.Twice = kinds.Twice
kind_of_fault history.Kind = kinds.Kind

-- at one place, the condition of this kind fails, and all before it hold
pub record IsFirstKind (Meets : CheckKind → Type 0) (kind : CheckKind) : Type 0 where
  pub fails : ¬ Meets kind
  pub before : (other : CheckKind) → kind_order other < kind_order kind → Meets other

-- in one part, the condition of this kind fails at this place; all at earlier places hold, and all before it at its own
pub record IsFirstIn (Meets : ℕ → CheckKind → Type 0) (at : ℕ) (kind : CheckKind) : Type 0 where
  pub fails : ¬ Meets at kind
  pub places : (place : ℕ) (other : CheckKind) → place < at → Meets place other
  pub before : (other : CheckKind) → kind_order other < kind_order kind → Meets at other

-- one condition is tried before another
abbrev pub Precedes : Part → ℕ → CheckKind → Part → ℕ → CheckKind → Type 0
Precedes p k q part at kind = (part_order p < part_order part) ⊎ ((p ≡ part) × ((k < at) ⊎ ((k ≡ at) × (kind_order q < kind_order kind))))
