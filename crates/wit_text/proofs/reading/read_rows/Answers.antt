use Rattle.std.proofs.Common.{length, ap, ◌∙◌, arith}
use Rattle.text_words.specs.Text.{Rest}
use Rattle.wit_text.specs.Reading.{end}
use Rattle.wit_text.proofs.LinesLeft.{end-next, next_line-shorter}
use Rattle.wit_text.proofs.Steps.{row-here, rows-step}
use Rattle.wit_text.proofs.Values.{bits-length}
use Rattle.text_words.specs.Text.{line_bytes}
use Rattle.wit_text.proofs.reading.read_rows.Goals as goal

pub push-requires : goal.push-requires
push-requires c =
    let r = c.steps.cursor in
    let here = row-here (end r) c.args.inputs r c.in_ok-row.row c.in_ok-row.ensures.line in
    omega (arith, bits-length c.args.inputs (line_bytes r.bytes) c.in_ok-row.row here.1, c.steps.invariant.width)

pub steps-smaller : goal.steps-smaller
steps-smaller c =
    let r = c.steps.cursor in
    let here = row-here (end r) c.args.inputs r c.in_ok-row.row c.in_ok-row.ensures.line in
    omega (arith, next_line-shorter r here.0, ap (λ (x : Rest). length x.bytes) c.in_ok-row.ensures.next)

pub steps-preserved : goal.steps-preserved
steps-preserved c =
    let r = c.steps.cursor in
    let here = row-here (end r) c.args.inputs r c.in_ok-row.row c.in_ok-row.ensures.line in
    let kept = c.steps.invariant in
    record {
      width = c.in_ok-push.ensures.width ∙ kept.width;
      last = ap end c.in_ok-row.ensures.next ∙ end-next r ∙ kept.last;
      left = rows-step (end c.args.cursor.now) c.args.inputs c.steps.rows.rows c.push.new.self.rows r c.read_bits.new.cursor c.in_ok-row.row here.0 here.1 c.in_ok-push.ensures.ok c.in_ok-row.ensures.next
          ∙ kept.left;
    }
