use Rattle.std.proofs.Common.{◌≡◌, ◌+◌, All, length}
use Rattle.seed_pool.specs.Seats.{PoolSeatState, IsSeatOf}
use Rattle.board_rows.specs.declared.pool_rows.Ball.{Ball}
use Rattle.board_rows.specs.declared.pool_rows.Worker.{Worker}
use Rattle.board_rows.proofs.pool_rows.workers_of.Given as goal

abbrev pub invariant-loop-seat : goal.invariant-loop-seat
invariant-loop-seat l = record {
  seats : All (λ (s : PoolSeatState Ball). IsSeatOf l.pool s) l.seats.seats;
  workers : All (λ (w : Worker). IsSeatOf l.pool w.seat) l.workers.items;
  count : length l.seats.seats + length l.workers.items ≡ l.pool.callers;
  room : l.seats.room ≡ l.pool.callers;
}

abbrev pub decreases-loop-seat : goal.decreases-loop-seat
decreases-loop-seat l = length l.seats.seats
