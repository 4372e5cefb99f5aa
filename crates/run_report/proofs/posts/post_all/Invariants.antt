use Rattle.std.proofs.Common.{◌≡◌}
use Rattle.run_report.specs.Posts.{posts_of}
use Rattle.run_report.proofs.posts.post_all.Given as goal

abbrev pub invariant-loop-finding : goal.invariant-loop-finding
invariant-loop-finding l = l.posts ≡ posts_of l.yielded
