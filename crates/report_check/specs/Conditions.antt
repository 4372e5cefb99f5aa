-- All conditions of a report, and the first that fails.
use Rattle.std.specs.Prelude.{◌≡◌, ◌<◌, ◌^◌, ℕ, List, length, take, slice_get, Some}
use Rattle.aig_model.specs.declared.parts.Parts.{Parts}
use Rattle.board_core.specs.declared.fault.HistoryKind.{HistoryKind}
use Rattle.board_core.specs.declared.entry.Entry.{Entry}
use Rattle.board_core.specs.Faults.{HasFault}
use Rattle.report_text.specs.declared.report.Report.{Report}
use Rattle.report_check.specs.declared.fault.Part.{Part}
use Rattle.report_check.specs.declared.fault.Part.TheVariants as parts
use Rattle.report_check.specs.declared.fault.CheckKind.{CheckKind}
use Rattle.report_check.specs.declared.fault.CheckFault.{CheckFault}
use Rattle.report_check.specs.declared.fault.CheckFault.TheVariants.{At, OutOfMemory}
use Rattle.report_check.specs.Order.{part_order, kind_of_fault, IsFirstIn, Precedes}
use Rattle.report_check.specs.Sizes.{SizeMeets, EndMeets}
use Rattle.report_check.specs.Seeds.{SeedsMeet}
use Rattle.report_check.specs.Invariants.{InvsMeet}
use Rattle.report_check.specs.Goals.{GoalsMeet}
use Rattle.report_check.specs.Queries.{SpentsMeet}
use Rattle.report_check.specs.Refutes.{RefutesMeet}

-- the entry at this place hasn't the fault of this kind
abbrev pub HistoryMeets : List ℕ → Report → ℕ → CheckKind → Type 0
HistoryMeets sig r at kind = (fault : HistoryKind) → kind ≡ kind_of_fault fault → (e : Entry) → slice_get r.history at ≡ Some e
    → ¬ HasFault r.options (2 ^ length sig) (take at r.history) e fault

-- The report meets the condition of this kind at this place of a part. Where a part has no such place, or no condition of
-- this kind, there is nothing to meet.
abbrev pub Meets : Parts → List ℕ → Report → Part → ℕ → CheckKind → Type 0
Meets c sig r parts.Size at kind = SizeMeets c sig r at kind
Meets c sig r parts.History at kind = HistoryMeets sig r at kind
Meets c sig r parts.Seed at kind = SeedsMeet c r at kind
Meets c sig r parts.Inv at kind = InvsMeet c r at kind
Meets c sig r parts.Goal at kind = GoalsMeet c sig r at kind
Meets c sig r parts.Spent at kind = SpentsMeet c sig r at kind
Meets c sig r parts.Refute at kind = RefutesMeet c sig r at kind
Meets c sig r parts.End at kind = EndMeets r at kind

-- every condition of a part
abbrev pub MeetsAll : Parts → List ℕ → Report → Part → Type 0
MeetsAll c sig r part = (at : ℕ) (kind : CheckKind) → Meets c sig r part at kind

-- every condition
abbrev pub IsUpheld : Parts → List ℕ → Report → Type 0
IsUpheld c sig r = (part : Part) → MeetsAll c sig r part

-- this condition fails, and each that is tried before it holds
pub record IsFirstFault (c : Parts) (sig : List ℕ) (r : Report) (part : Part) (at : ℕ) (kind : CheckKind) : Type 0 where
  pub fails : ¬ Meets c sig r part at kind
  pub before : (p : Part) (k : ℕ) (q : CheckKind) → Precedes p k q part at kind → Meets c sig r p k q

-- ---- what a check of one part answers
-- the fault names the first condition of this part that fails
abbrev pub IsFaultOf : Parts → List ℕ → Report → Part → CheckFault → Type 0
IsFaultOf c sig r part (At p at kind) = (p ≡ part) × IsFirstIn (Meets c sig r part) at kind
IsFaultOf c sig r part OutOfMemory = Unit {0}

-- the fault names the first condition of all that fails
abbrev pub IsFault : Parts → List ℕ → Report → CheckFault → Type 0
IsFault c sig r (At part at kind) = IsFirstFault c sig r part at kind
IsFault c sig r OutOfMemory = Unit {0}

-- every condition of the parts before this one
abbrev pub MeetsBefore : Parts → List ℕ → Report → Part → Type 0
MeetsBefore c sig r part = (p : Part) → part_order p < part_order part → MeetsAll c sig r p
