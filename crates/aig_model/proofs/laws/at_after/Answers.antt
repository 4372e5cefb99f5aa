use Rattle.aig_model.proofs.Runs as lemmas
use Rattle.aig_model.proofs.laws.at_after.Goals as goal

pub returns : goal.returns
returns c = lemmas.at_after
