use Rattle.hop_search.proofs.NewGoals.{new_is_at_lem}
use Rattle.hop_search.proofs.laws.new_is_at.Goals as goal

pub returns : goal.returns
returns c = new_is_at_lem
