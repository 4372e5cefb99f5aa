use Rattle.std.proofs.Common.{◌≡◌, ◌++◌, map}
use Rattle.run_report.specs.Run.{sweep_finding}
use Rattle.run_report.proofs.findings.add_found.Given as goal

abbrev pub invariant-loop-new : goal.invariant-loop-new
invariant-loop-new l = l.findings ≡ l.fn.findings ++ map sweep_finding l.yielded
