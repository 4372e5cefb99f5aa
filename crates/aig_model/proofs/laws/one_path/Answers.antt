use Rattle.aig_model.proofs.Paths as lemmas
use Rattle.aig_model.proofs.laws.one_path.Goals as goal

pub returns : goal.returns
returns c = lemmas.one_path
