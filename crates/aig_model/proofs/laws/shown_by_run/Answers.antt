use Rattle.aig_model.proofs.Runs as lemmas
use Rattle.aig_model.proofs.laws.shown_by_run.Goals as goal

pub returns : goal.returns
returns c = lemmas.shown_by_run
