use Rattle.aig_eval.proofs.Paths as lemmas
use Rattle.aig_eval.proofs.laws.some_path.Goals as goal

pub returns : goal.returns
returns c = lemmas.some_path
