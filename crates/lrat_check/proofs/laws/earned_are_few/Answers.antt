use Rattle.lrat_check.proofs.FewLemmas.{earned_are_few}
use Rattle.lrat_check.proofs.laws.earned_are_few.Goals as goal

pub returns : goal.returns
returns c = earned_are_few
