use Rattle.std.proofs.Common.{[], ◌∙◌, arith}
use Rattle.std.proofs.lemmas.List.{get_or_default}
use Rattle.report_text.specs.Text.{bits_words}
use Rattle.report_text.proofs.Written.{lines-more}
use Rattle.report_text.proofs.text_writer.TextWriter.rows.Goals as goal

pub loop-row-preserved : goal.loop-row-preserved
loop-row-preserved c =
    let rows = c.args.rows.now.rows in
    let row = c.loop-row.row in
    let bits = c.in_ok-bits.bits in
    let within = c.len-row-end.ensures.value in
    rw (c.in_ok-bits-2.ensures, c.loop-row.invariant)
    (lines-more c.args.self.now bits_words rows row bits (omega (arith, within)) (c.in_ok-bits.ensures.row ∙ get_or_default rows row [] bits (omega (arith, within))))
