use Rattle.std.proofs.Common.{◌≡◌, ◌++◌, length}
use Rattle.std.specs.Vec.Iter.{into_iter_items, into_iter_len}
use Rattle.board_rows.proofs.desk_rows.put_all_back.Given as goal

abbrev pub invariant-loop-seat : goal.invariant-loop-seat
invariant-loop-seat l = record {
  long : into_iter_len l.seat-iterator ≡ length (into_iter_items l.seat-iterator);
  seats : l.seats.seats ++ into_iter_items l.seat-iterator ≡ l.fn.seats.seats ++ l.fn.back.items;
  room : l.seats.room ≡ l.fn.seats.room;
}
