use Rattle.std.proofs.Common.{take}
use Rattle.run_report.proofs.Walking.{AreAdded}
use Rattle.run_report.proofs.batches.add_visits.Given as goal

abbrev pub invariant-loop-visit : goal.invariant-loop-visit
invariant-loop-visit l = AreAdded l.circuit l.signals.lits l.options l.batch l.known (take l.visit-index l.visits) l.fn.findings l.findings
