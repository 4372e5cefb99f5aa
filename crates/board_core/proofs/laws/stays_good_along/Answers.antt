use Rattle.board_core.proofs.Kept.{stays_good_along}
use Rattle.board_core.proofs.laws.stays_good_along.Goals as goal

pub returns : goal.returns
returns c = stays_good_along
