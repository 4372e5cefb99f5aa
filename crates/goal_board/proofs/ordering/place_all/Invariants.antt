use Rattle.std.proofs.Common.{◌≡◌, ◌<◌, length, All}
use Rattle.std.specs.Vec.Iter.{into_iter_items, into_iter_len}
use Rattle.goal_board.specs.declared.pass.Posted.{Posted}
use Rattle.goal_board.specs.Ends.{placed}
use Rattle.goal_board.proofs.ordering.place_all.Given as goal

abbrev pub invariant-loop-post : goal.invariant-loop-post
invariant-loop-post l = record {
  long : into_iter_len l.post-iterator ≡ length (into_iter_items l.post-iterator);
  numbers : All (λ (p : Posted). p.entry.number < length l.places.items) (into_iter_items l.post-iterator);
  placed_are : placed l.places.items (into_iter_items l.post-iterator) ≡ placed l.fn.places.items l.fn.posts.items;
}
