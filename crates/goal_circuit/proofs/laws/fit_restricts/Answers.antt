use Rattle.goal_circuit.proofs.Restriction as lemmas
use Rattle.goal_circuit.proofs.laws.fit_restricts.Goals as goal

pub returns : goal.returns
returns c = lemmas.fit_restricts
