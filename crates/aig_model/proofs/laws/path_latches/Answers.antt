use Rattle.aig_model.proofs.Paths as lemmas
use Rattle.aig_model.proofs.laws.path_latches.Goals as goal

pub returns : goal.returns
returns c = lemmas.path_latches
