use Rattle.std.proofs.lemmas.Result.{err_from_is_err_and}
use Rattle.aig_binary.proofs.FileBack.{reads-back}
use Rattle.aig_binary.proofs.Refused.{refused-ok, refused-so, written-so}
use Rattle.aig_binary.proofs.writing.write_aig.Goals as goal

pub returns-in_err-check_order-clause-ok : goal.returns-in_err-check_order-clause-ok
returns-in_err-check_order-clause-ok c =
    let p = err_from_is_err_and c.from_residual.result c.from_residual.ensures.1 in
    rw (p.1, p.2) (refused-ok c.args.circuit.now c.in_err-check_order.field-0.0 c.in_err-check_order.ensures.err)

pub returns-in_err-check_order-clause-not_binary : goal.returns-in_err-check_order-clause-not_binary
returns-in_err-check_order-clause-not_binary c lit =
    let p = err_from_is_err_and c.from_residual.result c.from_residual.ensures.1 in
    rw (p.1, p.2) (refused-so c.args.circuit.now c.in_err-check_order.field-0.0 lit c.in_err-check_order.ensures.err)

pub returns-clause-not_binary : goal.returns-clause-not_binary
returns-clause-not_binary c lit = written-so c.args.circuit.now c.in_ok-file.file lit c.in_ok-check_order.ensures.ok

pub returns-clause-reads_back : goal.returns-clause-reads_back
returns-clause-reads_back c = reads-back c.args.circuit.now c.in_ok-file.file.items c.is_well_formed.ensures c.in_ok-check_order.ensures.ok c.in_ok-file.ensures
