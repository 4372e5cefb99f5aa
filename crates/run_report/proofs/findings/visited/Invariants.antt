use Rattle.std.proofs.Common.{take}
use Rattle.std.specs.List.{AllZip}
use Rattle.run_report.specs.Run.{IsZeroFinding}
use Rattle.run_report.proofs.findings.visited.Given as goal

abbrev pub invariant-loop-visit : goal.invariant-loop-visit
invariant-loop-visit l = AllZip (IsZeroFinding l.circuit) (take l.visit-index l.visits) l.findings
