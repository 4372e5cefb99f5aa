use Rattle.std.proofs.Common.{◌≤◌, IsTrue, take, length}
use Rattle.cnf_base.specs.Status.{has}
use Rattle.sat_trail.specs.Trail.{lits}
use Rattle.sat_learn.proofs.implication.place_of.Given as goal

-- the literal stands before the place
abbrev pub invariant-loop-place : goal.invariant-loop-place
invariant-loop-place l = record {
  within : l.place ≤ length l.trail.assignments;
  before : IsTrue (has (lits (take l.place l.trail.assignments)) l.lit);
}

abbrev pub decreases-loop-place : goal.decreases-loop-place
decreases-loop-place l = l.place
