use Rattle.wit_text.proofs.Answering.{whole-read, witness-spelled, fault-first, witness-answered, fault-answered}
use Rattle.wit_text.proofs.reading.read_witness.Goals as goal

pub returns-clause-witness : goal.returns-clause-witness
returns-clause-witness c =
    let text = c.args.bytes.now in
    witness-spelled c.args.latches c.args.inputs text c.read_lines.result (whole-read c.args.latches c.args.inputs text c.new-cursor.result c.read_lines.result c.new-cursor.ensures c.read_lines.ensures)

pub returns-clause-fault : goal.returns-clause-fault
returns-clause-fault c =
    let text = c.args.bytes.now in
    fault-first c.args.latches c.args.inputs text c.read_lines.result (whole-read c.args.latches c.args.inputs text c.new-cursor.result c.read_lines.result c.new-cursor.ensures c.read_lines.ensures)

pub returns-clause-every_witness : goal.returns-clause-every_witness
returns-clause-every_witness c w s =
    let text = c.args.bytes.now in
    witness-answered c.args.latches c.args.inputs text c.read_lines.result w
    (whole-read c.args.latches c.args.inputs text c.new-cursor.result c.read_lines.result c.new-cursor.ensures c.read_lines.ensures) s

pub returns-clause-every_fault : goal.returns-clause-every_fault
returns-clause-every_fault c at kind f =
    let text = c.args.bytes.now in
    fault-answered c.args.latches c.args.inputs text c.read_lines.result at kind
    (whole-read c.args.latches c.args.inputs text c.new-cursor.result c.read_lines.result c.new-cursor.ensures c.read_lines.ensures) f
