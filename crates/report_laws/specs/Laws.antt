-- The checker refuses no report of a run.
use Rattle.std.specs.Prelude.{◌≡◌, ◌⊎◌, ℕ, true, false, List}
use Rattle.aig_model.specs.declared.parts.Parts.{Parts}
use Rattle.sim_walk.specs.declared.options.Options.{Options}
use Rattle.report_text.specs.declared.report.Report.{Report}
use Rattle.report_reading.specs.Spelled.{SpellsReport}
use Rattle.run_report.specs.Report.{Tells, IsReport}
use Rattle.run_report.specs.Scope.{Scope}
use Rattle.report_check.specs.Conditions.{IsUpheld}
use Rattle.report_check.specs.Sizes.{AreInRange, HasRoom}

-- The options are ones that `cover` takes for the circuit. The run has a prover, and it keeps the proofs of the queries that
-- have no model, if the options ask for them.
pub record IsWholeRun (c : Parts) (o : Options) (scope : Scope) : Type 0 where
  pub ranges : AreInRange o
  pub room : HasRoom o c
  pub proves : scope.proves ≡ true
  pub refutes : (scope.refutes ≡ true) ⊎ (o.proofs ≡ false)

-- A report that tells the truth of such a run meets each condition that a report is checked for.
abbrev pub TrueReportIsUpheld : Type 0
TrueReportIsUpheld = (c : Parts) (sig : List ℕ) (o : Options) (scope : Scope) (r : Report) → IsWholeRun c o scope → Tells c sig o scope r → IsUpheld c sig r

-- the bytes are the text of one report, and it meets each condition
pub record IsAccepted (c : Parts) (sig bytes : List ℕ) : Type 0 where
  pub report : Report
  pub spells : SpellsReport bytes report
  pub only : (other : Report) → SpellsReport bytes other → other ≡ report
  pub upheld : IsUpheld c sig report

-- What such a run prints is read as one report, which meets each condition.
abbrev pub PrintedReportIsAccepted : Type 0
PrintedReportIsAccepted = (c : Parts) (sig : List ℕ) (o : Options) (scope : Scope) (bytes : List ℕ) → IsWholeRun c o scope → IsReport c sig o scope bytes → IsAccepted c sig bytes
