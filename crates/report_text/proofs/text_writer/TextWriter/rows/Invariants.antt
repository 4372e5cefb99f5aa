use Rattle.std.proofs.Common.{◌≡◌, ◌++◌, map, take}
use Rattle.report_text.specs.Text.{text, bits_words}
use Rattle.report_text.proofs.text_writer.TextWriter.rows.Given as goal

abbrev pub invariant-loop-row : goal.invariant-loop-row
invariant-loop-row l = l.self ≡ l.fn.self ++ text (map bits_words (take l.row l.rows.rows))
