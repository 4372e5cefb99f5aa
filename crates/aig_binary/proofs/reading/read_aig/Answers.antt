use Rattle.std.proofs.Common.{Ok, sym, ap, ◌∙◌, subst, inl}
use Rattle.std.proofs.lemmas.Result.{err_from_is_err_and}
use Rattle.aig_model.specs.declared.parts.Parts.{Parts}
use Rattle.aig_model.specs.WellFormed.{IsCircuit}
use Rattle.aig_binary.proofs.Answering.{fault-unmet, no-circuit, this-fault, spelled, no-fault}
use Rattle.aig_binary.proofs.RightFile.{file-circuit}
use Rattle.aig_binary.proofs.reading.read_aig.Goals as goal

pub returns-in_err-parts-clause-fault : goal.returns-in_err-parts-clause-fault
returns-in_err-parts-clause-fault c =
    let p = err_from_is_err_and c.from_residual.result c.from_residual.ensures.1 in
    rw (p.1, p.2) (fault-unmet c.args.bytes.now c.in_err-parts.field-0.0 c.in_err-parts.ensures.demands)

pub returns-in_err-parts-clause-every_circuit : goal.returns-in_err-parts-clause-every_circuit
returns-in_err-parts-clause-every_circuit c d s =
    let p = err_from_is_err_and c.from_residual.result c.from_residual.ensures.1 in
    rw (p.1, p.2) (no-circuit c.args.bytes.now c.in_err-parts.field-0.0 d c.in_err-parts.ensures.demands s)

pub returns-in_err-parts-clause-every_fault : goal.returns-in_err-parts-clause-every_fault
returns-in_err-parts-clause-every_fault c at kind f =
    let p = err_from_is_err_and c.from_residual.result c.from_residual.ensures.1 in
    rw (p.1, p.2) (this-fault c.args.bytes.now c.in_err-parts.field-0.0 at kind c.in_err-parts.ensures.demands f)

pub new-requires : goal.new-requires
new-requires c = subst IsCircuit (sym c.in_ok-parts.ensures.parts) (file-circuit c.args.bytes.now c.in_ok-parts.ensures.demands)

pub returns-clause-circuit : goal.returns-clause-circuit
returns-clause-circuit c = spelled c.args.bytes.now c.new.result c.in_ok-parts.ensures.demands (c.new.ensures ∙ c.in_ok-parts.ensures.parts)

pub returns-clause-every_circuit : goal.returns-clause-every_circuit
returns-clause-every_circuit c d s = inl (ap (λ (x : Parts). Ok x) (c.new.ensures ∙ c.in_ok-parts.ensures.parts ∙ sym s.parts))

pub returns-clause-every_fault : goal.returns-clause-every_fault
returns-clause-every_fault c at kind f =
    absurd (no-fault c.args.bytes.now c.new.result at kind (spelled c.args.bytes.now c.new.result c.in_ok-parts.ensures.demands (c.new.ensures ∙ c.in_ok-parts.ensures.parts)) f)
