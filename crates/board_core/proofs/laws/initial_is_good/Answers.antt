use Rattle.board_core.proofs.Kept.{initial_is_good}
use Rattle.board_core.proofs.laws.initial_is_good.Goals as goal

pub returns : goal.returns
returns c = initial_is_good
