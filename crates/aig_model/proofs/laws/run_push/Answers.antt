use Rattle.aig_model.proofs.Runs as lemmas
use Rattle.aig_model.proofs.laws.run_push.Goals as goal

pub returns : goal.returns
returns c = lemmas.run_push
