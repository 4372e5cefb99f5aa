use Rattle.goal_circuit.proofs.Extension as lemmas
use Rattle.goal_circuit.proofs.laws.fit_extends.Goals as goal

pub returns : goal.returns
returns c = lemmas.fit_extends
