use Rattle.aig_model.proofs.LatchClauses as lemmas
use Rattle.aig_model.proofs.laws.barred_is_unreachable.Goals as goal

pub returns : goal.returns
returns c = lemmas.barred_is_unreachable
