-- What the definition of a true report gives.
use Rattle.std.specs.Prelude.{ℕ, List}
use Rattle.aig_model.specs.declared.parts.Parts.{Parts}
use Rattle.sim_walk.specs.declared.options.Options.{Options}
use Rattle.report_text.specs.declared.report.Report.{Report}
use Rattle.run_report.specs.Report.{Tells, SettlesAsked}
use Rattle.run_report.specs.Scope.{Scope}

-- A report that tells the truth settles each goal that was asked for, as far as its bounds reach.
abbrev pub TrueReportsSettle : Type 0
TrueReportsSettle = (c : Parts) (sig : List ℕ) (o : Options) (scope : Scope) (r : Report) → Tells c sig o scope r → SettlesAsked c sig scope r
