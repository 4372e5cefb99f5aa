use Rattle.std.proofs.Common.{ℕ, ◌<◌, [], get_or}
use Rattle.aig_model.specs.Meaning.{IsReset}
use Rattle.inv_cert.specs.Resets.{HoldsAtReset}
use Rattle.inv_cert.proofs.reset.first_failing.Given as goal

abbrev pub invariant-loop-place : goal.invariant-loop-place
invariant-loop-place l = IsReset l.circuit l.state × ((k : ℕ) → k < l.place → HoldsAtReset l.circuit (get_or l.clauses k []))
