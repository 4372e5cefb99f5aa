use Rattle.std.proofs.Common.{◌≡◌, ◌++◌, length}
use Rattle.board_rows.proofs.desk_rows.taken_out.Given as goal

abbrev pub invariant-loop-seat : goal.invariant-loop-seat
invariant-loop-seat l = record {
  seats : l.seats.seats ++ l.taken.items ≡ l.fn.seats.seats;
  room : l.seats.room ≡ l.fn.seats.room;
}

abbrev pub decreases-loop-seat : goal.decreases-loop-seat
decreases-loop-seat l = length l.seats.seats
