use Rattle.hop_search.proofs.NewGoals.{new_replays_lem}
use Rattle.hop_search.proofs.laws.new_replays.Goals as goal

pub returns : goal.returns
returns c = new_replays_lem
