use Rattle.std.proofs.Common.{length, refl, ap, arith}
use Rattle.std.proofs.lemmas.List.{take_all}
use Rattle.report_text.specs.Text.{clause_words}
use Rattle.report_text.proofs.Written.{lines-more}
use Rattle.report_text.proofs.clause_text.write_clauses.Goals as goal

pub loop-clause-preserved : goal.loop-clause-preserved
loop-clause-preserved c =
    let items = c.as_slice-clause-items.ensures in
    rw (c.in_ok-write_clause.ensures, c.loop-clause.invariant)
    (lines-more c.args.out.now clause_words c.args.clauses.now c.loop-clause.clause-index c.clause-item.result (omega (arith, ap length items)) (rw items at c.clause-item.is))

pub returns : goal.returns
returns c =
    let items = c.as_slice-clause-items.ensures in
    rw (c.loop-clause.invariant, take_all c.loop-clause.clause-index c.args.clauses.now (omega (arith, ap length items))) refl
