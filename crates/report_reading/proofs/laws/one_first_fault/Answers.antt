use Rattle.report_reading.proofs.FirstFault as first
use Rattle.report_reading.proofs.laws.one_first_fault.Goals as goal

pub returns : goal.returns
returns c = first.one_first_fault
