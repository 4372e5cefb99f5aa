use Rattle.std.proofs.Common.{◌≡◌, ℕ, ◌<◌, ◌≤◌}
use Rattle.sat_trail.specs.Trail.{lits}
use Rattle.sat_watch.specs.Book.{ExtendsByUnits}
use Rattle.sat_watch.specs.Scanning.{RestsAt}
use Rattle.sat_watch.proofs.examine.examine_from.Given as goal

-- the clauses so far rest
abbrev pub invariant-loop-place : goal.invariant-loop-place
invariant-loop-place l =
    record {
      by_units : ExtendsByUnits l.clauses l.initial.trail l.trail;
      low : l.trail.low ≡ l.initial.trail.low;
      rests : (place : ℕ) → l.from ≤ place → place < l.place → RestsAt l.clauses (lits l.trail.assignments) (lits l.initial.trail.assignments) place;
    }
