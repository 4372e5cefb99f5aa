use Rattle.std.proofs.Common.{◌≡◌, ◌++◌, length}
use Rattle.std.specs.Vec.{vec_capacity}
use Rattle.std.specs.Vec.Iter.{into_iter_items, into_iter_len}
use Rattle.goal_board.proofs.ordering.append.Given as goal

abbrev pub invariant-loop-post : goal.invariant-loop-post
invariant-loop-post l = record {
  long : into_iter_len l.post-iterator ≡ length (into_iter_items l.post-iterator);
  items : l.all.items ++ into_iter_items l.post-iterator ≡ l.fn.all.items ++ l.fn.posts.items;
  capacity : vec_capacity l.all ≡ vec_capacity l.fn.all;
}
