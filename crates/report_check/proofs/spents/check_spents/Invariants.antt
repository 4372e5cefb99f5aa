use Rattle.std.proofs.Common.{ℕ}
use Rattle.report_text.specs.declared.report.Block.{Block}
use Rattle.report_check.specs.declared.fault.CheckKind.{CheckKind}
use Rattle.report_check.specs.Queries.{SpentMeets}
use Rattle.report_check.proofs.Items.{HoldsBelow}
use Rattle.report_check.proofs.spents.check_spents.Given as goal

abbrev pub invariant-loop-place : goal.invariant-loop-place
invariant-loop-place l = HoldsBelow (λ (k : ℕ) (b : Block). (q : CheckKind) → SpentMeets l.circuit l.signals.lits l.report k b q) l.report.spents l.place
