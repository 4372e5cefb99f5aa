use Rattle.goal_circuit.proofs.Reach as lemmas
use Rattle.goal_circuit.proofs.laws.same_reach.Goals as goal

pub returns : goal.returns
returns c = lemmas.same_reach
