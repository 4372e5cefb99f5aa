use Rattle.aig_model.proofs.Runs as lemmas
use Rattle.aig_model.proofs.laws.at_step.Goals as goal

pub returns : goal.returns
returns c = lemmas.at_step
