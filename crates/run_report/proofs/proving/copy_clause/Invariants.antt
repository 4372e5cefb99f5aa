use Rattle.std.proofs.Common.{◌≡◌, take}
use Rattle.run_report.proofs.proving.copy_clause.Given as goal

abbrev pub invariant-loop-lit : goal.invariant-loop-lit
invariant-loop-lit l = l.copy ≡ take l.lit-index l.clause
