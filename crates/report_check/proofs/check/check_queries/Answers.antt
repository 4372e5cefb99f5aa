use Rattle.std.proofs.Common.{arith, refl}
use Rattle.std.proofs.lemmas.Result.{err_from_is_err_and}
use Rattle.report_check.specs.declared.fault.Part.TheVariants as parts
use Rattle.report_check.proofs.Order.{before_next, whole_fault, all_parts}
use Rattle.report_check.proofs.Passing.{in_range, room, states, seed_count}
use Rattle.report_check.proofs.check.check_queries.Goals as goal

pub check_spents-requires-clause-room : goal.check_spents-requires-clause-room
check_spents-requires-clause-room c = room c.args.circuit.now c.args.signals.now.lits c.args.report.now (c.requires.before parts.Size (omega arith))

pub check_spents-requires-clause-states : goal.check_spents-requires-clause-states
check_spents-requires-clause-states c = states c.args.circuit.now c.args.signals.now.lits c.args.report.now c.requires.form (c.requires.before parts.Size (omega arith))

pub returns-in_err-check_spents : goal.returns-in_err-check_spents
returns-in_err-check_spents c =
    let p = err_from_is_err_and c.from_residual.result c.from_residual.ensures.1 in
    rw (p.1, p.2) (whole_fault c.args.circuit.now c.args.signals.now.lits c.args.report.now parts.Spent c.in_err-check_spents.field-0.0 c.requires.before c.in_err-check_spents.ensures)

pub check_refutes-requires-clause-ranges : goal.check_refutes-requires-clause-ranges
check_refutes-requires-clause-ranges c = in_range c.args.circuit.now c.args.signals.now.lits c.args.report.now (c.requires.before parts.Size (omega arith))

pub check_refutes-requires-clause-room : goal.check_refutes-requires-clause-room
check_refutes-requires-clause-room c = room c.args.circuit.now c.args.signals.now.lits c.args.report.now (c.requires.before parts.Size (omega arith))

pub check_refutes-requires-clause-states : goal.check_refutes-requires-clause-states
check_refutes-requires-clause-states c = states c.args.circuit.now c.args.signals.now.lits c.args.report.now c.requires.form (c.requires.before parts.Size (omega arith))

pub check_refutes-requires-clause-seeds : goal.check_refutes-requires-clause-seeds
check_refutes-requires-clause-seeds c = seed_count c.args.circuit.now c.args.signals.now.lits c.args.report.now (c.requires.before parts.Seed (omega arith))

pub returns-in_err-check_refutes : goal.returns-in_err-check_refutes
returns-in_err-check_refutes c =
    let p = err_from_is_err_and c.from_residual-in_err-check_refutes.result c.from_residual-in_err-check_refutes.ensures.1 in
    rw (p.1, p.2) (whole_fault c.args.circuit.now c.args.signals.now.lits c.args.report.now parts.Refute c.in_err-check_refutes.field-0.0
    (before_next c.args.circuit.now c.args.signals.now.lits c.args.report.now parts.Spent parts.Refute refl c.requires.before c.in_ok-check_spents.ensures) c.in_err-check_refutes.ensures)

pub returns-in_err-check_end : goal.returns-in_err-check_end
returns-in_err-check_end c =
    let p = err_from_is_err_and c.from_residual-in_err-check_end.result c.from_residual-in_err-check_end.ensures.1 in
    rw (p.1, p.2) (whole_fault c.args.circuit.now c.args.signals.now.lits c.args.report.now parts.End c.in_err-check_end.field-0.0
    (before_next c.args.circuit.now c.args.signals.now.lits c.args.report.now parts.Refute parts.End refl
    (before_next c.args.circuit.now c.args.signals.now.lits c.args.report.now parts.Spent parts.Refute refl c.requires.before c.in_ok-check_spents.ensures) c.in_ok-check_refutes.ensures)
    c.in_err-check_end.ensures)

pub returns : goal.returns
returns c = all_parts c.args.circuit.now c.args.signals.now.lits c.args.report.now
    (before_next c.args.circuit.now c.args.signals.now.lits c.args.report.now parts.Refute parts.End refl
    (before_next c.args.circuit.now c.args.signals.now.lits c.args.report.now parts.Spent parts.Refute refl c.requires.before c.in_ok-check_spents.ensures) c.in_ok-check_refutes.ensures)
    c.in_ok-check_end.ensures
