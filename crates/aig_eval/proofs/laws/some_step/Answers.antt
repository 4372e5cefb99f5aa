use Rattle.aig_eval.proofs.Filling as lemmas
use Rattle.aig_eval.proofs.laws.some_step.Goals as goal

pub returns : goal.returns
returns c = lemmas.some_step
