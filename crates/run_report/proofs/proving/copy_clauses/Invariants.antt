use Rattle.std.proofs.Common.{◌≡◌, take}
use Rattle.run_report.proofs.proving.copy_clauses.Given as goal

abbrev pub invariant-loop-clause : goal.invariant-loop-clause
invariant-loop-clause l = l.copy ≡ take l.clause-index l.clauses
