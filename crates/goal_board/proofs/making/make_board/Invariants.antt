use Rattle.std.proofs.Common.{◌≡◌, ◌+◌, ◌-◌, ◌*◌, ◌≤◌, [], Some, map}
use Rattle.std.specs.List.{range_with_len}
use Rattle.std.specs.Vec.{vec_capacity}
use Rattle.board_core.specs.Core.{fresh_view}
use Rattle.goal_board.specs.Passes.{new_pass}
use Rattle.goal_board.proofs.making.make_board.Given as goal

abbrev pub invariant-loop-caller : goal.invariant-loop-caller
invariant-loop-caller l = record {
  at : l.first.table_id ≡ l.table.shared.table_id;
  slots : l.first.me.1 ≡ [];
  terms : l.first.me.0.terms ≡ Some l.table.shared.key;
  parts : l.first.me.0.parts + l.caller ≡ l.callers + 1;
  made : l.first.me.0.made ≡ l.caller;
  caller : l.first.me.0.caller ≡ 0;
  known : l.first.me.0.known ≡ fresh_view;
  share : l.first.me.0.share ≡ l.goals;
  left : l.first.me.0.left ≡ l.first.me.0.parts * l.goals;
  passes : l.passes.items ≡ map (new_pass (record { table = l.table.shared.table_id; terms = l.table.shared.key })) (range_with_len 1 (l.caller - 1));
  room : l.callers ≤ vec_capacity l.passes;
}
