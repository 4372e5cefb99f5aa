use Rattle.std.proofs.Common.{Bool, true, subst}
use Rattle.run_report.specs.Report.{Tells}
use Rattle.run_report.proofs.run.run_engines.Goals as goal

pub returns-clause-tells : goal.returns-clause-tells
returns-clause-tells c =
    subst (λ (b : Bool). Tells c.args.circuit.now c.args.signals.now.lits c.args.options.now (record { proves = b; refutes = true }) c.in_ok-report.report) c.in_ok-findings.ensures.proves c.in_ok-report.ensures.tells
