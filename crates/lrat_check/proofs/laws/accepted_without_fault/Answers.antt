use Rattle.lrat_check.proofs.Agreement.{accepted_without_fault}
use Rattle.lrat_check.proofs.laws.accepted_without_fault.Goals as goal

pub returns : goal.returns
returns c = accepted_without_fault
