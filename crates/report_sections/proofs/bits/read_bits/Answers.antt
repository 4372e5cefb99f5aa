use Rattle.std.proofs.Common.{◌≡◌, length}
use Rattle.report_text.specs.Text.{bits_words}
use Rattle.report_sections.specs.Pieces.{one}
use Rattle.report_sections.specs.Seeds.{bits_read}
use Rattle.report_sections.proofs.Combine.{gives-reads}
use Rattle.report_sections.proofs.SeedsRead.{bits-reads}
use Rattle.report_sections.proofs.bits.read_bits.Goals as goal

pub returns-clause-reads : goal.returns-clause-reads
returns-clause-reads c =
    let old = c.args.lines.now in
    let width = c.args.width in
    gives-reads (λ bits. length bits ≡ width) (one bits_words) old c.line.new.lines c.line.result (bits_read width old) c.line.ensures (bits-reads width old)
