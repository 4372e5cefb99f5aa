use Rattle.seed_pool.specs.Seats.{IsSeatOf}
use Rattle.board_rows.proofs.pool_rows.fills_and_drains.Given as goal

abbrev pub invariant-loop-number : goal.invariant-loop-number
invariant-loop-number l = IsSeatOf l.pool l.seat

abbrev pub invariant-loop-number-2 : goal.invariant-loop-number-2
invariant-loop-number-2 l = IsSeatOf l.pool l.seat
