use Rattle.aig_model.proofs.Paths as lemmas
use Rattle.aig_model.proofs.laws.path_end.Goals as goal

pub returns : goal.returns
returns c = λ c state frames n path. lemmas.path_drop c n state frames path
