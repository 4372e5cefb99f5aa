use Rattle.std.proofs.Common.{Ok, Err}
use Rattle.std.proofs.lemmas.Result.{err_from_is_err_and}
use Rattle.aig_model.specs.declared.fault.BuildFault.TheVariants.{Range, Defined, Undefined, Order}
use Rattle.aig_model.proofs.FaultLaws.{ok_exactly, err_exactly}
use Rattle.aig_model.proofs.circuit.Circuit.build.Goals as goal

pub returns-in_err-check-clause-ok : goal.returns-in_err-check-clause-ok
returns-in_err-check-clause-ok c =
    let p = err_from_is_err_and c.from_residual.result c.from_residual.ensures.1 in
    rw (p.1, p.2) (ok_exactly c.args.parts (Err c.in_err-check.field-0.0) tt c.in_err-check.ensures.err)

pub returns-in_err-check-clause-range : goal.returns-in_err-check-clause-range
returns-in_err-check-clause-range c =
    let p = err_from_is_err_and c.from_residual.result c.from_residual.ensures.1 in
    rw (p.1, p.2) (λ lit. err_exactly c.args.parts (Range lit) (Err c.in_err-check.field-0.0) (λ same. cc) tt c.in_err-check.ensures.err)

pub returns-in_err-check-clause-defined : goal.returns-in_err-check-clause-defined
returns-in_err-check-clause-defined c =
    let p = err_from_is_err_and c.from_residual.result c.from_residual.ensures.1 in
    rw (p.1, p.2) (λ lit. err_exactly c.args.parts (Defined lit) (Err c.in_err-check.field-0.0) (λ same. cc) tt c.in_err-check.ensures.err)

pub returns-in_err-check-clause-undefined : goal.returns-in_err-check-clause-undefined
returns-in_err-check-clause-undefined c =
    let p = err_from_is_err_and c.from_residual.result c.from_residual.ensures.1 in
    rw (p.1, p.2) (λ lit. err_exactly c.args.parts (Undefined lit) (Err c.in_err-check.field-0.0) (λ same. cc) tt c.in_err-check.ensures.err)

pub returns-in_err-check-clause-order : goal.returns-in_err-check-clause-order
returns-in_err-check-clause-order c =
    let p = err_from_is_err_and c.from_residual.result c.from_residual.ensures.1 in
    rw (p.1, p.2) (λ gate. err_exactly c.args.parts (Order gate) (Err c.in_err-check.field-0.0) (λ same. cc) tt c.in_err-check.ensures.err)

pub returns-clause-ok : goal.returns-clause-ok
returns-clause-ok c = ok_exactly c.args.parts (Ok c.args.parts) c.in_ok-check.ensures.ok tt

pub returns-clause-range : goal.returns-clause-range
returns-clause-range c = λ lit. err_exactly c.args.parts (Range lit) (Ok c.args.parts) (λ same. cc) c.in_ok-check.ensures.ok tt

pub returns-clause-defined : goal.returns-clause-defined
returns-clause-defined c = λ lit. err_exactly c.args.parts (Defined lit) (Ok c.args.parts) (λ same. cc) c.in_ok-check.ensures.ok tt

pub returns-clause-undefined : goal.returns-clause-undefined
returns-clause-undefined c = λ lit. err_exactly c.args.parts (Undefined lit) (Ok c.args.parts) (λ same. cc) c.in_ok-check.ensures.ok tt

pub returns-clause-order : goal.returns-clause-order
returns-clause-order c = λ gate. err_exactly c.args.parts (Order gate) (Ok c.args.parts) (λ same. cc) c.in_ok-check.ensures.ok tt
