use Rattle.std.proofs.Common.{◌≡◌, true, ℤ, neg_ℤ}
use Rattle.cnf_base.specs.Status.{has}
use Rattle.sat_trail.specs.Trail.{lits}
use Rattle.sat_learn.specs.Visiting.{AreVisitsOf}
use Rattle.sat_learn.proofs.minimize.+walk.Given as goal

abbrev pub decreases-walk : goal.decreases-walk
decreases-walk l = l.depth

-- what was visited so far is false, and of other variables nothing is known
abbrev pub invariant-loop-other : goal.invariant-loop-other
invariant-loop-other l =
    record {
      visits : AreVisitsOf l.visited.items l.visits;
      all_false : (x : ℤ) → has l.visited.items x ≡ true → has (lits l.premises.trail.assignments) (neg_ℤ x) ≡ true;
    }
