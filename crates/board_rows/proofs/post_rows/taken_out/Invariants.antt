use Rattle.std.proofs.Common.{◌≡◌, ◌++◌, length}
use Rattle.board_rows.proofs.post_rows.taken_out.Given as goal

abbrev pub invariant-loop-pass : goal.invariant-loop-pass
invariant-loop-pass l = record {
  passes : l.passes.passes ++ l.taken.items ≡ l.fn.passes.passes;
  room : l.passes.room ≡ l.fn.passes.room;
  goals : l.passes.goals ≡ l.fn.passes.goals;
}

abbrev pub decreases-loop-pass : goal.decreases-loop-pass
decreases-loop-pass l = length l.passes.passes
