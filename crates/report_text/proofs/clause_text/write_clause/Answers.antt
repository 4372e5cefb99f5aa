use Rattle.std.proofs.Common.{length, ap, arith}
use Rattle.std.proofs.lemmas.List.{take_all}
use Rattle.report_text.proofs.Written.{clause-ended}
use Rattle.report_text.proofs.clause_text.write_clause.Goals as goal

pub returns : goal.returns
returns c =
    let items = c.as_slice-literal-items.ensures in
    rw (c.in_ok-end_line.ensures, c.in_ok-word.ensures, c.loop-literal.invariant, take_all c.loop-literal.literal-index c.args.clause.now (omega (arith, ap length items))) (clause-ended c.args.out.now c.args.clause.now)
