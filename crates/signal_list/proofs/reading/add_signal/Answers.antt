use Rattle.signal_list.proofs.Progress.{own-fault}
use Rattle.signal_list.proofs.reading.add_signal.Goals as goal

pub returns-in_err-lit-clause-err : goal.returns-in_err-lit-clause-err
returns-in_err-lit-clause-err c =
    own-fault c.args.circuit.now c.args.lits.now c.args.line.now c.from_residual.result c.in_err-lit.field-0.0 c.from_residual.ensures.1 c.in_err-lit.ensures.fault
