use Rattle.std.proofs.Common.{append_assoc}
use Rattle.std.specs.Prelude.{decimal}
use Rattle.std.proofs.lemmas.List.{take_all}
use Rattle.report_text.proofs.Written.{line-items}
use Rattle.report_text.proofs.text_writer.TextWriter.number_line.Goals as goal

pub returns : goal.returns
returns c =
    rw (c.in_ok-end_line.ensures, c.loop-n.invariant, take_all c.loop-n.n-index c.args.numbers.now c.loop-n-test.false, line-items decimal c.args.name.now c.args.numbers.now) (simp append_assoc)
