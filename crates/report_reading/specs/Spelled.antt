-- Which texts are those of a report, and what the first fault of any other text is.
use Rattle.std.specs.Prelude.{◌≡◌, ℕ, ◌+◌, ◌≤◌, Result, Ok, Err, List, ◌++◌, length, take}
use Rattle.ketch_base.specs.Exactly as exactly
use Rattle.report_text.specs.declared.report.Report.{Report}
use Rattle.report_text.specs.Form.{HasForm}
use Rattle.report_text.specs.Text.{text, report_lines, report_text}
use Rattle.report_lines.specs.Reading.{kind_at}
use Rattle.report_lines.specs.declared.fault.ReportKind.{ReportKind}
use Rattle.report_lines.specs.declared.fault.ReportFault.{ReportFault}
use Rattle.report_lines.specs.declared.fault.ReportFault.TheVariants as faults

pub record SpellsReport (bytes : List ℕ) (r : Report) : Type 0 where
  pub form : HasForm r
  pub spelled : report_text r ≡ bytes

-- the first n lines of some report, and what follows them
pub record BeginsReport (bytes : List ℕ) (n : ℕ) (rest : List ℕ) : Type 0 where
  pub report : Report
  pub form : HasForm report
  pub within : n ≤ length (report_lines report)
  pub parts : bytes ≡ text (take n (report_lines report)) ++ rest

-- No report has the text. The lines before this one are those of a report, and with this one they aren't; lines count from 1.
pub record IsFirstFault (bytes : List ℕ) (line : ℕ) (kind : ReportKind) : Type 0 where
  pub before : ℕ
  pub place : line ≡ before + 1
  pub rest : List ℕ
  pub begins : BeginsReport bytes before rest
  pub kind_of : kind ≡ kind_at rest
  pub stops : (more : List ℕ) → ¬ BeginsReport bytes line more
  pub no_report : (r : Report) → ¬ SpellsReport bytes r

-- ---- what a call answers

-- a fault other than out of memory is the first one
abbrev pub IsFault : List ℕ → ReportFault → Type 0
IsFault bytes (faults.At line kind) = IsFirstFault bytes line kind
IsFault bytes faults.OutOfMemory = Unit {0}

-- a call answers so, unless memory runs out
abbrev pub Answers : Result Report ReportFault → Result Report ReportFault → Type 0
Answers result answer = exactly.Answers faults.OutOfMemory result answer

-- the answer is what is told, unless memory runs out
abbrev pub GivesWhole : Result Report ReportFault → Result Report ReportFault → Type 0
GivesWhole (Ok r) told = told ≡ Ok r
GivesWhole (Err (faults.At line kind)) told = told ≡ Err (faults.At line kind)
GivesWhole (Err faults.OutOfMemory) told = Unit {0}

-- ---- a law
abbrev pub OneFirstFault : Type 0
OneFirstFault = (bytes : List ℕ) (l m : ℕ) (j k : ReportKind) → IsFirstFault bytes l j → IsFirstFault bytes m k → (l ≡ m) × (j ≡ k)
