use Rattle.std.proofs.Common.{arith}
use Rattle.goal_board.proofs.Seats.{joins}
use Rattle.goal_board.proofs.table.join.Goals as goal

pub join_seat-requires : goal.join_seat-requires
join_seat-requires c = (c.requires.seat.0, c.requires.other.0, c.requires.other.1, omega (arith, c.requires.table), joins _ _ _ _ _ c.requires.seat.1 c.requires.other.2 c.requires.caller.0 c.requires.caller.1)
