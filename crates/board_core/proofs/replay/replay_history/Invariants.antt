use Rattle.std.proofs.Common.{◌≡◌, ℕ, ◌*◌, ◌<◌, length, take, Some, slice_get}
use Rattle.board_core.specs.declared.entry.Entry.{Entry}
use Rattle.board_core.specs.Faults.{IsFaultless}
use Rattle.board_core.specs.Posts.{AreOf}
use Rattle.board_core.proofs.replay.replay_history.Given as goal

abbrev pub invariant-loop-place : goal.invariant-loop-place
invariant-loop-place l = record {
  items : l.entry-items ≡ l.entries;
  goals : length l.posts.verdicts.items ≡ l.goals;
  size : length l.posts.posted.items ≡ length l.posts.verdicts.items * 8;
  posts : AreOf (take l.place l.entries) l.posts.verdicts.items l.posts.posted.items;
  faultless : (k : ℕ) (e : Entry) → k < l.place → slice_get l.entries k ≡ Some e → IsFaultless l.options l.goals (take k l.entries) e;
}
