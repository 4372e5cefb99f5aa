use Rattle.std.proofs.Common.{◌≡◌, ◌++◌, map}
use Rattle.run_report.specs.Batches.{hop_finding}
use Rattle.run_report.proofs.hops.add_found.Given as goal

abbrev pub invariant-loop-new : goal.invariant-loop-new
invariant-loop-new l = l.findings ≡ l.fn.findings ++ map (hop_finding l.batch l.seed) l.yielded
