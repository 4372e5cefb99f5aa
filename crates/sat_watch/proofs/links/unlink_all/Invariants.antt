use Rattle.std.proofs.Common.{◌≡◌, ℕ, ◌<◌, None, get_or}
use Rattle.sat_watch.proofs.links.unlink_all.Given as goal

-- the heads so far lead nowhere
abbrev pub invariant-loop-head : goal.invariant-loop-head
invariant-loop-head l = (k : ℕ) → k < l.head-index → get_or l.heads k None ≡ None
