use Rattle.std.proofs.Common.{◌≡◌}
use Rattle.seed_pool.specs.Seats.{Missed}
use Rattle.seed_pool.proofs.pool.SeedPool.put.Given as goal

abbrev pub invariant-loop-cell : goal.invariant-loop-cell
invariant-loop-cell g l = record {
  table : l.seat.table ≡ l.fn.seat.table;
  circuit : l.seat.circuit ≡ l.fn.seat.circuit;
  same : l.offered ≡ l.fn.seed;
  put : l.seat.put ≡ l.fn.seat.put;
  taken : l.seat.taken ≡ l.fn.seat.taken;
  tried : Missed 0 l.cell l.fn.seat.tried l.seat.tried;
}
