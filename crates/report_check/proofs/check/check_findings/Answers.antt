use Rattle.std.proofs.lemmas.Result.{err_from_is_err_and}
use Rattle.report_check.specs.declared.fault.Part.TheVariants as parts
use Rattle.report_check.proofs.Order.{before_first, whole_fault}
use Rattle.report_check.proofs.Passing.{sized, before_history, before_seeds, before_invs, before_goals, before_spents}
use Rattle.report_check.proofs.check.check_findings.Goals as goal

pub returns-in_err-check_size : goal.returns-in_err-check_size
returns-in_err-check_size c =
    let p = err_from_is_err_and c.from_residual.result c.from_residual.ensures.1 in
    rw (p.1, p.2) (whole_fault c.args.circuit.now c.args.signals.now.lits c.args.report.now parts.Size c.in_err-check_size.field-0.0
    (before_first c.args.circuit.now c.args.signals.now.lits c.args.report.now) c.in_err-check_size.ensures)

pub returns-in_err-check_history : goal.returns-in_err-check_history
returns-in_err-check_history c =
    let p = err_from_is_err_and c.from_residual-in_err-check_history.result c.from_residual-in_err-check_history.ensures.1 in
    rw (p.1, p.2) (whole_fault c.args.circuit.now c.args.signals.now.lits c.args.report.now parts.History c.in_err-check_history.field-0.0
    (before_history c.args.circuit.now c.args.signals.now.lits c.args.report.now c.in_ok-check_size.ensures) c.in_err-check_history.ensures)

pub check_seeds-requires-clause-sizes : goal.check_seeds-requires-clause-sizes
check_seeds-requires-clause-sizes c = sized c.args.circuit.now c.args.signals.now.lits c.args.report.now c.in_ok-check_size.ensures

pub returns-in_err-check_seeds : goal.returns-in_err-check_seeds
returns-in_err-check_seeds c =
    let p = err_from_is_err_and c.from_residual-in_err-check_seeds.result c.from_residual-in_err-check_seeds.ensures.1 in
    rw (p.1, p.2) (whole_fault c.args.circuit.now c.args.signals.now.lits c.args.report.now parts.Seed c.in_err-check_seeds.field-0.0
    (before_seeds c.args.circuit.now c.args.signals.now.lits c.args.report.now c.in_ok-check_size.ensures c.in_ok-check_history.ensures) c.in_err-check_seeds.ensures)

pub returns-in_err-check_invs : goal.returns-in_err-check_invs
returns-in_err-check_invs c =
    let p = err_from_is_err_and c.from_residual-in_err-check_invs.result c.from_residual-in_err-check_invs.ensures.1 in
    rw (p.1, p.2) (whole_fault c.args.circuit.now c.args.signals.now.lits c.args.report.now parts.Inv c.in_err-check_invs.field-0.0
    (before_invs c.args.circuit.now c.args.signals.now.lits c.args.report.now c.in_ok-check_size.ensures c.in_ok-check_history.ensures c.in_ok-check_seeds.ensures) c.in_err-check_invs.ensures)

pub returns-in_err-check_goals : goal.returns-in_err-check_goals
returns-in_err-check_goals c =
    let p = err_from_is_err_and c.from_residual-in_err-check_goals.result c.from_residual-in_err-check_goals.ensures.1 in
    rw (p.1, p.2) (whole_fault c.args.circuit.now c.args.signals.now.lits c.args.report.now parts.Goal c.in_err-check_goals.field-0.0
    (before_goals c.args.circuit.now c.args.signals.now.lits c.args.report.now c.in_ok-check_size.ensures c.in_ok-check_history.ensures c.in_ok-check_seeds.ensures c.in_ok-check_invs.ensures)
    c.in_err-check_goals.ensures)

pub returns : goal.returns
returns c = before_spents c.args.circuit.now c.args.signals.now.lits c.args.report.now c.in_ok-check_size.ensures c.in_ok-check_history.ensures c.in_ok-check_seeds.ensures c.in_ok-check_invs.ensures
    c.in_ok-check_goals.ensures
