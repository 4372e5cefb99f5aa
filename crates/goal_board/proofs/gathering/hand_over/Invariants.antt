use Rattle.std.proofs.Common.{◌≡◌, ◌+◌, ◌*◌, ◌<◌, ◌≤◌, [], None, length}
use Rattle.std.specs.Vec.{vec_capacity}
use Rattle.goal_board.specs.Ends.{AreTaken}
use Rattle.goal_board.proofs.gathering.hand_over.Given as goal

abbrev pub invariant-loop-next : goal.invariant-loop-next
invariant-loop-next l = record {
  at : l.seat.table_id ≡ l.table.shared.table_id;
  slots : l.seat.me.1 ≡ [];
  live : 0 < l.seat.me.0.parts;
  idle : l.seat.me.0.known.unmarked ≡ None;
  parts : l.seat.me.0.parts + length l.passes.items ≡ length l.fn.passes.items;
  room : length l.all.items + length l.passes.items * l.goals ≤ vec_capacity l.all;
  taken : AreTaken l.table.shared.key l.goals l.fn.passes.items l.passes.items l.seat.me.0.caller l.seat.me.0.known l.all.items;
}

abbrev pub decreases-loop-next : goal.decreases-loop-next
decreases-loop-next l = length l.passes.items
