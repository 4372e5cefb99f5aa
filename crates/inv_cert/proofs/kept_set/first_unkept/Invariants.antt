use Rattle.std.proofs.Common.{ℕ, ◌<◌}
use Rattle.inv_cert.specs.KeptSets.{IsKeptBy}
use Rattle.inv_cert.proofs.kept_set.first_unkept.Given as goal

abbrev pub invariant-loop-place : goal.invariant-loop-place
invariant-loop-place l = (k : ℕ) → k < l.place → IsKeptBy l.circuit l.clauses l.kept k
