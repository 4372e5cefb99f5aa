use Rattle.board_core.proofs.Kept.{stays_good}
use Rattle.board_core.proofs.laws.stays_good.Goals as goal

pub returns : goal.returns
returns c = stays_good
