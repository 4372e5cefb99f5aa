use Rattle.std.proofs.Common.{◌≡◌, ◌<◌, ◌-◌, ◌+◌, ℕ, false, pos, length, get_or}
use Rattle.cnf_base.specs.Status.{has}
use Rattle.sat_trail.specs.Trail.{lits}
use Rattle.sat_solver.proofs.model.values.Given as goal

abbrev pub invariant-loop-var : goal.invariant-loop-var
invariant-loop-var l = record {
  number : length l.bits + 1 ≡ l.var;
  each : (x : ℕ) → 0 < x → x < l.var → get_or l.bits (x - 1) false ≡ has (lits l.trail.assignments) (pos x);
}
