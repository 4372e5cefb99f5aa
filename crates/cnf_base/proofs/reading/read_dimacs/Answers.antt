use Rattle.cnf_base.proofs.Whole.{formula-spelled, fault-is-first, formula-answered, fault-answered}
use Rattle.cnf_base.proofs.reading.read_dimacs.Goals as goal

pub returns-clause-formula : goal.returns-clause-formula
returns-clause-formula c = formula-spelled c.args.bytes.now c.read.result c.read.ensures

pub returns-clause-fault : goal.returns-clause-fault
returns-clause-fault c = fault-is-first c.args.bytes.now c.read.result c.read.ensures

pub returns-clause-every_formula : goal.returns-clause-every_formula
returns-clause-every_formula c f s = formula-answered c.args.bytes.now c.read.result f c.read.ensures s

pub returns-clause-every_fault : goal.returns-clause-every_fault
returns-clause-every_fault c line kind s = fault-answered c.args.bytes.now c.read.result line kind c.read.ensures s
