use Rattle.report_reading.proofs.WholeRead.{spells, faulty, reads-each, refuses-each}
use Rattle.report_reading.proofs.reading.read_report.Goals as goal

pub returns-clause-report : goal.returns-clause-report
returns-clause-report c = spells c.args.bytes.now c.whole.result c.whole.ensures

pub returns-clause-fault : goal.returns-clause-fault
returns-clause-fault c = faulty c.args.bytes.now c.whole.result c.whole.ensures

pub returns-clause-every_report : goal.returns-clause-every_report
returns-clause-every_report c r sp = reads-each c.args.bytes.now c.whole.result r c.whole.ensures sp

pub returns-clause-every_fault : goal.returns-clause-every_fault
returns-clause-every_fault c line kind f = refuses-each c.args.bytes.now c.whole.result line kind c.whole.ensures f
