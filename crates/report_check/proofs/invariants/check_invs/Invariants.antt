use Rattle.std.proofs.Common.{ℕ}
use Rattle.report_text.specs.declared.report.Inv.{Inv}
use Rattle.report_check.specs.declared.fault.CheckKind.{CheckKind}
use Rattle.report_check.specs.Invariants.{InvMeets}
use Rattle.report_check.proofs.Items.{HoldsBelow}
use Rattle.report_check.proofs.invariants.check_invs.Given as goal

abbrev pub invariant-loop-place : goal.invariant-loop-place
invariant-loop-place l = HoldsBelow (λ (k : ℕ) (i : Inv). (q : CheckKind) → InvMeets l.circuit i q) l.report.invs l.place
