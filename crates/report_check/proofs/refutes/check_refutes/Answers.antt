use Rattle.std.proofs.Common.{ℕ, refl, sym, subst}
use Rattle.report_check.specs.declared.fault.Part.TheVariants as parts
use Rattle.report_check.specs.declared.fault.CheckKind.TheVariants as kinds
use Rattle.report_check.specs.Conditions.{Meets}
use Rattle.report_check.specs.Order.{IsFirstIn}
use Rattle.report_check.proofs.FirstKinds.{missing_first, refutes_met}
use Rattle.report_check.proofs.refutes.check_refutes.Goals as goal

pub returns-then-not-are_all_told : goal.returns-then-not-are_all_told
returns-then-not-are_all_told c = (
  refl,
  subst (λ (at : ℕ). IsFirstIn (Meets c.args.circuit.now c.args.signals.now.lits c.args.report.now parts.Refute) at kinds.Missing) (sym c.len.ensures)
      (missing_first c.args.circuit.now c.args.signals.now.lits c.args.report.now c.in_ok-walked.ensures.meets
      (λ told. let yes = c.if-not-are_all_told.ensures.1 told in cc)),
)

pub returns : goal.returns
returns c = refutes_met c.args.circuit.now c.args.signals.now.lits c.args.report.now c.in_ok-walked.ensures.meets (c.if-not-are_all_told.ensures.0 refl)
