use Rattle.std.proofs.Common.{ℕ, ◌<◌, [], get_or}
use Rattle.aig_model.specs.Meaning.{IsReset}
use Rattle.inv_cert.specs.Resets.{HoldsAtReset}
use Rattle.report_check.proofs.clauses.hold_at_reset.Given as goal

abbrev pub invariant-loop-clause : goal.invariant-loop-clause
invariant-loop-clause l = IsReset l.circuit l.state × ((k : ℕ) → k < l.clause-index → HoldsAtReset l.circuit (get_or l.clauses k []))
