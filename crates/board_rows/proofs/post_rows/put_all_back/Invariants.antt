use Rattle.std.proofs.Common.{◌≡◌, ◌++◌, length}
use Rattle.std.specs.Vec.Iter.{into_iter_items, into_iter_len}
use Rattle.board_rows.proofs.post_rows.put_all_back.Given as goal

abbrev pub invariant-loop-pass : goal.invariant-loop-pass
invariant-loop-pass l = record {
  long : into_iter_len l.pass-iterator ≡ length (into_iter_items l.pass-iterator);
  passes : l.passes.passes ++ into_iter_items l.pass-iterator ≡ l.fn.passes.passes ++ l.fn.back.items;
  room : l.passes.room ≡ l.fn.passes.room;
  goals : l.passes.goals ≡ l.fn.passes.goals;
}
