use Rattle.std.proofs.Common.{ℕ, ◌<◌}
use Rattle.inv_cert.specs.KeptSets.{IsKeptBy}
use Rattle.report_check.proofs.evidence.are_kept.Given as goal

abbrev pub invariant-loop-place : goal.invariant-loop-place
invariant-loop-place l = (k : ℕ) → k < l.place → IsKeptBy l.circuit l.inv.clauses l.inv.kept k
