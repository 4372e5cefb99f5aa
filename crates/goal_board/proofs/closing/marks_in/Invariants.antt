use Rattle.std.proofs.Common.{◌≡◌, ◌≤◌, ◌<◌, ◌+◌, ℕ, length, get_or, Option, None}
use Rattle.std.specs.Vec.{vec_capacity}
use Rattle.std.specs.Slots.{slots_items}
use Rattle.board_core.specs.declared.view.GoalMark.{GoalMark}
use Rattle.board_core.specs.Core.{word_of}
use Rattle.goal_board.specs.Ends.{number_of}
use Rattle.goal_board.proofs.closing.marks_in.Given as goal

abbrev pub invariant-loop-goal : goal.invariant-loop-goal
invariant-loop-goal l = record {
  long : length l.marks.items ≡ l.goal;
  room : l.goals ≤ vec_capacity l.marks;
  marks : (k : ℕ) (mark : Option GoalMark) → k < l.goal → get_or (slots_items l.closed.words) (k + 1) 0 ≡ word_of mark → get_or l.marks.items k None ≡ number_of mark;
}
