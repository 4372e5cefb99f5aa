use Rattle.std.proofs.Common.{◌≡◌, ℕ, ◌+◌, ◌<◌, length, All, None}
use Rattle.seed_pool.specs.Lists.{total}
use Rattle.seed_pool.specs.Seats.{IsSeatOf, PoolSeatState}
use Rattle.seed_pool.proofs.ending.end_pool.Given as goal

abbrev pub invariant-loop-next : goal.invariant-loop-next
invariant-loop-next g l = record {
  at : l.seat.table_id ≡ l.table.shared.table_id;
  parts : l.seat.me.0.parts + length l.seats.items ≡ l.fn.pool.callers;
  some : 0 < l.seat.me.0.parts;
  claim : l.seat.me.0.claim ≡ None;
  all : All (λ (s : PoolSeatState g.row.S.Denot). IsSeatOf l.fn.pool s) l.seats.items;
  put : (f : g.row.S.Denot → ℕ) → total f l.seat.me.0.put + total (λ (s : PoolSeatState g.row.S.Denot). total f s.put) l.seats.items ≡ total (λ (s : PoolSeatState g.row.S.Denot). total f s.put) l.fn.seats.seats;
  taken : (f : g.row.S.Denot → ℕ) → total f l.seat.me.0.taken + total (λ (s : PoolSeatState g.row.S.Denot). total f s.taken) l.seats.items ≡ total (λ (s : PoolSeatState g.row.S.Denot). total f s.taken) l.fn.seats.seats;
}

abbrev pub decreases-loop-next : goal.decreases-loop-next
decreases-loop-next g l = length l.seats.items
