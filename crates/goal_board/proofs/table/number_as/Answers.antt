use Rattle.std.proofs.Common.{arith}
use Rattle.goal_board.proofs.Steps.{numbers_allowed}
use Rattle.goal_board.proofs.table.number_as.Goals as goal

pub fetch_add-requires : goal.fetch_add-requires
fetch_add-requires g c = (c.requires.seat, omega (arith, c.requires.table), numbers_allowed c.args.table.now.shared.key _ _ c.args.seat.now.me _ _ c.requires.may)
