use Rattle.std.proofs.Common.{List, subst, arith, All}
use Rattle.run_report.specs.Lines.{HaveSearchLiterals}
use Rattle.run_report.specs.declared.ends.BatchEnd.{BatchEnd}
use Rattle.run_report.proofs.Counts.{all_more, all_whole}
use Rattle.run_report.proofs.literals.batches_literals_fit.Goals as goal

pub loop-end-preserved : goal.loop-end-preserved
loop-end-preserved c =
    all_more (λ (end : BatchEnd). HaveSearchLiterals end.hop) c.as_slice-end-items.result.now c.loop-end.end-index c.end-item.result c.loop-end-test.true c.end-item.is c.loop-end.invariant c.search_literals_fit.ensures

pub returns : goal.returns
returns c =
    subst (λ (xs : List (BatchEnd)). All (λ (end : BatchEnd). HaveSearchLiterals end.hop) xs) c.as_slice-end-items.ensures
    (all_whole (λ (end : BatchEnd). HaveSearchLiterals end.hop) c.as_slice-end-items.result.now c.loop-end.end-index (omega (arith, c.loop-end-test.false)) c.loop-end.invariant)
