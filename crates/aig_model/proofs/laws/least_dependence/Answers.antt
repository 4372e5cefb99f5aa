use Rattle.aig_model.proofs.Dependence as lemmas
use Rattle.aig_model.proofs.laws.least_dependence.Goals as goal

pub returns : goal.returns
returns c = lemmas.least_dependence
