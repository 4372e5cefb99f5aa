use Rattle.aig_model.proofs.OneAssignment.{one_assignment_lem}
use Rattle.aig_model.proofs.laws.one_assignment.Goals as goal

pub returns : goal.returns
returns c = one_assignment_lem
