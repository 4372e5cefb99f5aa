use Rattle.aig_model.proofs.OneGoal as lemmas
use Rattle.aig_model.proofs.laws.goal_below.Goals as goal

pub returns : goal.returns
returns c = lemmas.goal_of-lt
