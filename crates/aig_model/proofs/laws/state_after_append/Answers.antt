use Rattle.aig_model.proofs.Paths as lemmas
use Rattle.aig_model.proofs.laws.state_after_append.Goals as goal

pub returns : goal.returns
returns c = lemmas.state_after-append
