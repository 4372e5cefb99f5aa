use Rattle.std.proofs.Common.{take, All}
use Rattle.run_report.specs.Lines.{HaveSearchLiterals}
use Rattle.run_report.specs.declared.ends.BatchEnd.{BatchEnd}
use Rattle.run_report.proofs.literals.batches_literals_fit.Given as goal

abbrev pub invariant-loop-end : goal.invariant-loop-end
invariant-loop-end l = All (λ (end : BatchEnd). HaveSearchLiterals end.hop) (take l.end-index l.end-items)
