use Rattle.std.proofs.Common.{◌≡◌, take}
use Rattle.report_check.proofs.Bounding.{hops_from}
use Rattle.report_check.proofs.bounds.hop_bounds.Given as goal

abbrev pub invariant-loop-batch : goal.invariant-loop-batch
invariant-loop-batch l = l.hops ≡ hops_from l.report.options l.report.spents 0 (take l.batch l.report.seeds)
