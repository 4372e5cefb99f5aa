use Rattle.aig_model.proofs.Paths as lemmas
use Rattle.aig_model.proofs.laws.path_front.Goals as goal

pub returns : goal.returns
returns c = λ c state frames n path. lemmas.path_take c n state frames path
