use Rattle.std.proofs.Common.{◌≡◌, ◌+◌, All, length}
use Rattle.std.specs.Vec.Iter.{into_iter_items, into_iter_len}
use Rattle.seed_pool.specs.Seats.{PoolSeatState, IsSeatOf}
use Rattle.board_rows.specs.declared.pool_rows.Ball.{Ball}
use Rattle.board_rows.specs.declared.pool_rows.Worker.{Worker}
use Rattle.board_rows.proofs.pool_rows.put_back_all.Given as goal

abbrev pub invariant-loop-worker : goal.invariant-loop-worker
invariant-loop-worker l = record {
  long : into_iter_len l.worker-iterator ≡ length (into_iter_items l.worker-iterator);
  left : All (λ (w : Worker). IsSeatOf l.pool w.seat) (into_iter_items l.worker-iterator);
  seats : All (λ (s : PoolSeatState Ball). IsSeatOf l.pool s) l.seats.seats;
  count : length l.seats.seats + length (into_iter_items l.worker-iterator) ≡ l.pool.callers;
  room : l.seats.room ≡ l.pool.callers;
}
