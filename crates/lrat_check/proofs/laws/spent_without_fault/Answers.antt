use Rattle.lrat_check.proofs.SpentFaults.{spent_without_fault}
use Rattle.lrat_check.proofs.laws.spent_without_fault.Goals as goal

pub returns : goal.returns
returns c = spent_without_fault
