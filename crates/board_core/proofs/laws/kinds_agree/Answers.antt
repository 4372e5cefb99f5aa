use Rattle.board_core.proofs.Kept.{kinds_agree}
use Rattle.board_core.proofs.laws.kinds_agree.Goals as goal

pub returns : goal.returns
returns c = kinds_agree
