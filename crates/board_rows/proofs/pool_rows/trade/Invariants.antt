use Rattle.seed_pool.specs.Seats.{IsSeatOf}
use Rattle.board_rows.proofs.pool_rows.trade.Given as goal

abbrev pub invariant-loop-k : goal.invariant-loop-k
invariant-loop-k l = IsSeatOf l.pool l.worker.seat
