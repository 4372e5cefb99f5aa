-- A report that tells the truth settles what was asked for.
use Rattle.std.proofs.Common.{ℕ, List, refl}
use Rattle.aig_model.specs.declared.parts.Parts.{Parts}
use Rattle.sim_walk.specs.declared.options.Options.{Options}
use Rattle.report_text.specs.declared.report.GoalBlock.TheVariants as blocks
use Rattle.report_text.specs.declared.report.Report.{Report}
use Rattle.run_report.specs.Report.{Tells, SettlesAsked}
use Rattle.run_report.specs.Scope.{Scope}

pub settles_asked : (c : Parts) (sig : List ℕ) (o : Options) (scope : Scope) (r : Report) → Tells c sig o scope r → SettlesAsked c sig scope r
settles_asked c sig o scope r tells goal (blocks.Reached n witness) here asked = refl
settles_asked c sig o scope r tells goal (blocks.Unreachable n inv proof) here asked = refl
settles_asked c sig o scope r tells goal (blocks.Open depth hops strength) here asked = absurd ((tells.goals goal (blocks.Open depth hops strength) here).not_asked asked)
