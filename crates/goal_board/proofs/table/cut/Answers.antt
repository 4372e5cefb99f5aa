use Rattle.std.proofs.Common.{arith}
use Rattle.goal_board.proofs.Seats.{splits}
use Rattle.goal_board.proofs.table.cut.Goals as goal

pub split_seat-requires : goal.split_seat-requires
split_seat-requires c = (c.requires.seat, omega (arith, c.requires.table), splits _ _ _ c.requires.parts c.requires.caller.0 c.requires.caller.1 c.requires.left)
