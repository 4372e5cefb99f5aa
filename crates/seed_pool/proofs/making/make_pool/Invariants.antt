use Rattle.std.proofs.Common.{◌≡◌, ◌+◌, ◌≤◌, [], length, All, None, Some}
use Rattle.std.specs.Vec.{vec_capacity}
use Rattle.seed_pool.specs.Seats.{IsSeatOf, IsNew, PoolSeatState}
use Rattle.seed_pool.specs.Inside.{pool_state}
use Rattle.seed_pool.proofs.making.make_pool.Given as goal

abbrev pub invariant-loop : goal.invariant-loop
invariant-loop g l = record {
  at : l.first.table_id ≡ l.table.shared.table_id;
  slots : l.first.me.1 ≡ [];
  parts : l.first.me.0.parts + l.counter ≡ l.callers + 1;
  claim : l.first.me.0.claim ≡ None;
  put : l.first.me.0.put ≡ [];
  taken : l.first.me.0.taken ≡ [];
  tried : l.first.me.0.tried ≡ [];
  terms : l.first.me.0.terms ≡ Some l.table.shared.key;
  long : length l.seats.items + 1 ≡ l.counter;
  room : l.callers ≤ vec_capacity l.seats;
  all : All (λ (s : PoolSeatState g.row.S.Denot). IsSeatOf (pool_state l.table.shared.table_id l.table.shared.key) s) l.seats.items;
  new : All (λ (s : PoolSeatState g.row.S.Denot). IsNew s) l.seats.items;
}
