use Rattle.goal_circuit.proofs.Form as lemmas
use Rattle.goal_circuit.proofs.laws.goal_is_circuit.Goals as goal

pub returns : goal.returns
returns c = lemmas.goal_is_circuit
