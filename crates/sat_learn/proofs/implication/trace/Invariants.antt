use Rattle.std.proofs.Common.{◌≡◌, ◌+◌, ◌≤◌, length}
use Rattle.sat_trail.specs.Trail.{Assignment}
use Rattle.sat_learn.specs.Premises.{IsTracedIn}
use Rattle.sat_learn.proofs.implication.trace.Given as goal

-- the literal is explained down to the place
abbrev pub invariant-loop-place : goal.invariant-loop-place
invariant-loop-place l = record {
  within : l.place ≤ l.top;
  room : length l.marks ≡ l.premises.trail.vars + 1;
  traced : (p : Assignment) × (p.lit ≡ l.fn.lit) × IsTracedIn l.premises l.top p l.place l.marks l.taken.items l.hints.items;
}

abbrev pub decreases-loop-place : goal.decreases-loop-place
decreases-loop-place l = l.place
