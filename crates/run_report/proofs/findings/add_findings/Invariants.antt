use Rattle.std.proofs.Common.{◌≡◌, ◌++◌}
use Rattle.run_report.proofs.findings.add_findings.Given as goal

abbrev pub invariant-loop-new : goal.invariant-loop-new
invariant-loop-new l = l.findings ≡ l.fn.findings ++ l.yielded
