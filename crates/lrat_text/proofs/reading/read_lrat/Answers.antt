use Rattle.lrat_text.proofs.Whole.{proof-spelled, fault-is-first, proof-answered, fault-answered}
use Rattle.lrat_text.proofs.reading.read_lrat.Goals as goal

pub returns-clause-proof : goal.returns-clause-proof
returns-clause-proof c = proof-spelled c.args.bytes.now c.read.result c.read.ensures

pub returns-clause-fault : goal.returns-clause-fault
returns-clause-fault c = fault-is-first c.args.bytes.now c.read.result c.read.ensures

pub returns-clause-every_proof : goal.returns-clause-every_proof
returns-clause-every_proof c p s = proof-answered c.args.bytes.now c.read.result p c.read.ensures s

pub returns-clause-every_fault : goal.returns-clause-every_fault
returns-clause-every_fault c line kind s = fault-answered c.args.bytes.now c.read.result line kind c.read.ensures s
