use Rattle.inv_prover.proofs.Unique.{candidates_are_one}
use Rattle.inv_prover.proofs.laws.one_candidate_list.Goals as goal

pub returns : goal.returns
returns c = candidates_are_one
