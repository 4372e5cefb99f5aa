use Rattle.std.proofs.Common.{◌≡◌, true, ℤ, neg_ℤ}
use Rattle.cnf_base.specs.Status.{has}
use Rattle.sat_trail.specs.Trail.{lits}
use Rattle.sat_learn.specs.Visiting.{AreVisitsOf}
use Rattle.sat_learn.proofs.minimize.walk_all.Given as goal

-- what was visited so far is false, and of other variables nothing is known
abbrev pub invariant-loop-lit : goal.invariant-loop-lit
invariant-loop-lit l =
    record {
      visits : AreVisitsOf l.visited.items l.visits;
      all_false : (x : ℤ) → has l.visited.items x ≡ true → has (lits l.premises.trail.assignments) (neg_ℤ x) ≡ true;
    }
