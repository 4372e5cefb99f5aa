use Rattle.std.proofs.Common.{◌≡◌, ◌≤◌, get_or}
use Rattle.sat_watch.specs.Kept.{mark_levels}
use Rattle.sat_watch.proofs.seen.first_of_level.Given as goal

-- the place so far has the level
abbrev pub invariant-loop-first : goal.invariant-loop-first
invariant-loop-first l = record { at_most : l.first ≤ l.place; same : get_or (mark_levels l.seen) l.first 0 ≡ l.level }

abbrev pub decreases-loop-first : goal.decreases-loop-first
decreases-loop-first l = l.first
