use Rattle.std.proofs.Common.{ℕ}
use Rattle.std.specs.Prelude.{Option, IfSome}
use Rattle.report_text.specs.declared.report.SeedLine.{SeedLine}
use Rattle.report_check.specs.Seeds.{IsSeed}
use Rattle.report_check.proofs.Items.{HoldsBelow}
use Rattle.report_check.proofs.seeds.check_seeds.Given as goal

abbrev pub invariant-loop-batch : goal.invariant-loop-batch
invariant-loop-batch l = HoldsBelow (λ (k : ℕ) (line : Option SeedLine). IfSome line (IsSeed l.circuit)) l.report.seeds l.batch
