use Rattle.signal_list.proofs.Answering.{list-answered, no-list, fault-answered}
use Rattle.signal_list.proofs.InRange.{are-signals}
use Rattle.signal_list.proofs.OneReading.{not-both}
use Rattle.signal_list.proofs.reading.read_signals.Goals as goal

pub new-requires : goal.new-requires
new-requires c = are-signals c.args.circuit.now c.args.bytes.now c.in_ok-lits.lits c.is_well_formed.ensures c.in_ok-lits.ensures.lits

pub returns-in_err-lits-clause-every_list : goal.returns-in_err-lits-clause-every_list
returns-in_err-lits-clause-every_list c lits s =
    no-list c.args.circuit.now c.args.bytes.now lits c.from_residual.result c.in_err-lits.field-0.0 c.from_residual.ensures.1 c.in_err-lits.ensures.fault s

pub returns-in_err-lits-clause-every_fault : goal.returns-in_err-lits-clause-every_fault
returns-in_err-lits-clause-every_fault c line kind f =
    fault-answered c.args.circuit.now c.args.bytes.now line kind c.from_residual.result c.in_err-lits.field-0.0 c.from_residual.ensures.1 c.in_err-lits.ensures.fault f

pub returns-clause-every_list : goal.returns-clause-every_list
returns-clause-every_list c lits s =
    list-answered c.args.circuit.now c.args.bytes.now c.in_ok-lits.lits lits c.new.result c.new.ensures c.in_ok-lits.ensures.lits s

pub returns-clause-every_fault : goal.returns-clause-every_fault
returns-clause-every_fault c line kind f = absurd (not-both c.args.circuit.now c.args.bytes.now c.in_ok-lits.lits line kind c.in_ok-lits.ensures.lits f)
