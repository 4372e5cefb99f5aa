use Rattle.std.proofs.Common.{◌≡◌, take}
use Rattle.run_report.specs.Posts.{entries_of}
use Rattle.run_report.proofs.posts.entries_of.Given as goal

abbrev pub invariant-loop-post : goal.invariant-loop-post
invariant-loop-post l = l.entries ≡ entries_of (take l.post-index l.posts)
