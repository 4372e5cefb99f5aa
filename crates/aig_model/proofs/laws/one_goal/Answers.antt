use Rattle.aig_model.proofs.OneGoal.{one_goal_lem}
use Rattle.aig_model.proofs.laws.one_goal.Goals as goal

pub returns : goal.returns
returns c = one_goal_lem
