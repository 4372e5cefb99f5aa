use Rattle.std.proofs.Common.{◌≡◌, take}
use Rattle.run_report.specs.Ended.{hops_of}
use Rattle.run_report.proofs.bounds.hop_bounds.Given as goal

abbrev pub invariant-loop-batch : goal.invariant-loop-batch
invariant-loop-batch l = l.hops ≡ hops_of l.options (take l.batch l.ends)
