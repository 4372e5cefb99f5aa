use Rattle.run_report.proofs.Batching.{HaveRun}
use Rattle.run_report.proofs.batches.run_batches.Given as goal

abbrev pub invariant-loop-batch : goal.invariant-loop-batch
invariant-loop-batch l = HaveRun l.circuit l.signals.lits l.options l.batch l.fn.findings l.findings l.ends
