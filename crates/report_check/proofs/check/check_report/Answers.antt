use Rattle.std.proofs.Common.{subst}
use Rattle.aig_model.specs.SignalList.{IsSignals}
use Rattle.aig_model.specs.declared.parts.Parts.{Parts}
use Rattle.std.proofs.lemmas.Result.{err_from_is_err_and}
use Rattle.report_check.proofs.Order.{err_fault, answers_fault, answers_supported}
use Rattle.report_check.proofs.Supported.{upheld_is_supported_lem}
use Rattle.report_check.proofs.check.check_report.Goals as goal

pub returns-in_err-check_findings-clause-fault : goal.returns-in_err-check_findings-clause-fault
returns-in_err-check_findings-clause-fault c =
    let p = err_from_is_err_and c.from_residual.result c.from_residual.ensures.1 in
    rw (p.1, p.2) (err_fault c.args.circuit.now c.args.signals.now.lits c.args.report.now c.in_err-check_findings.field-0.0 c.in_err-check_findings.ensures)

pub returns-clause-fault : goal.returns-clause-fault
returns-clause-fault c = answers_fault c.args.circuit.now c.args.signals.now.lits c.args.report.now c.check_queries.result c.check_queries.ensures

pub returns-clause-supported : goal.returns-clause-supported
returns-clause-supported c =
    answers_supported c.args.circuit.now c.args.signals.now.lits c.args.report.now c.check_queries.result
    (upheld_is_supported_lem c.args.circuit.now c.args.signals.now.lits c.args.report.now c.is_well_formed.ensures
    (subst (λ (parts : Parts). IsSignals parts c.args.signals.now.lits) c.requires.signals c.is_well_formed-2.ensures) c.requires.form) c.check_queries.ensures
