use Rattle.std.proofs.Common.{◌≡◌, ◌≤◌, length}
use Rattle.std.specs.Vec.{vec_capacity}
use Rattle.job_desk.specs.Inside.{AreEmpty}
use Rattle.job_desk.proofs.making.empty_lists.Given as goal

abbrev pub invariant-loop : goal.invariant-loop
invariant-loop l = record {
  len : length l.lists.items ≡ l.counter;
  empty : AreEmpty l.lists.items;
  room : l.callers ≤ vec_capacity l.lists;
}
