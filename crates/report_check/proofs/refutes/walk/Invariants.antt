use Rattle.std.proofs.Common.{ℕ}
use Rattle.report_text.specs.declared.report.Block.{Block}
use Rattle.report_check.specs.declared.fault.CheckKind.{CheckKind}
use Rattle.report_check.specs.Refutes.{RefuteMeets}
use Rattle.report_check.specs.Walks.{AreWalked}
use Rattle.report_check.proofs.Items.{HoldsBelow}
use Rattle.report_check.proofs.refutes.walk.Given as goal

abbrev pub invariant-loop-place : goal.invariant-loop-place
invariant-loop-place l =
    AreWalked l.report l.place l.walked
    × HoldsBelow (λ (k : ℕ) (b : Block). (q : CheckKind) → RefuteMeets l.circuit l.signals.lits l.report k b q) l.report.refutes l.place
