use Rattle.std.proofs.Common.{◌≡◌, ◌-◌, ◌≤◌, length}
use Rattle.sat_watch.specs.Book.{ExtendsByUnits}
use Rattle.sat_watch.specs.Watching.{AreWatchedTo}
use Rattle.sat_watch.proofs.propagate.follow.Given as goal

-- each clause is watched by two literals that those so far don't falsify
abbrev pub invariant-loop-at : goal.invariant-loop-at
invariant-loop-at l =
    record {
      by_units : ExtendsByUnits l.clauses l.initial.trail l.trail;
      low : l.trail.low ≡ l.initial.trail.low;
      within : l.at ≤ length l.trail.assignments;
      watched : AreWatchedTo l.clauses l.heads l.watches l.trail l.at;
    }

abbrev pub decreases-loop-at : goal.decreases-loop-at
decreases-loop-at l = l.trail.vars - l.at
