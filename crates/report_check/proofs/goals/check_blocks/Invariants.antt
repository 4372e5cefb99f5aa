use Rattle.std.proofs.Common.{ℕ}
use Rattle.report_text.specs.declared.report.GoalBlock.{GoalBlock}
use Rattle.report_check.specs.declared.fault.CheckKind.{CheckKind}
use Rattle.report_check.specs.Goals.{GoalMeets}
use Rattle.report_check.proofs.Items.{HoldsBelow}
use Rattle.report_check.proofs.goals.check_blocks.Given as goal

abbrev pub invariant-loop-place : goal.invariant-loop-place
invariant-loop-place l = HoldsBelow (λ (k : ℕ) (b : GoalBlock). (q : CheckKind) → GoalMeets l.circuit l.signals.lits l.report k b q) l.report.goals l.place
