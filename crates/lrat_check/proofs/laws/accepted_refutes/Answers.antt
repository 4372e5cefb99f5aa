use Rattle.lrat_check.proofs.Refutation.{accepted_refutes}
use Rattle.lrat_check.proofs.laws.accepted_refutes.Goals as goal

pub returns : goal.returns
returns c = accepted_refutes
