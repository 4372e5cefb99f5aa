use Rattle.goal_circuit.proofs.BadLiterals as lemmas
use Rattle.goal_circuit.proofs.laws.bad_is_goal.Goals as goal

pub returns : goal.returns
returns c = lemmas.bad_is_goal
