use Rattle.report_text.specs.Form.{IsCounted, FitsSpent}
use Rattle.report_text.specs.Text.{spents_lines}
use Rattle.report_sections.proofs.Combine.{gives-reads}
use Rattle.report_blocks.specs.Queries.{spents_read}
use Rattle.report_blocks.proofs.QueriesRead.{spents-reads}
use Rattle.report_blocks.proofs.queries.read_spents.Goals as goal

pub returns-clause-reads : goal.returns-clause-reads
returns-clause-reads c =
    let old = c.args.lines.now in
    gives-reads (IsCounted FitsSpent) spents_lines old c.read_section.new.lines c.read_section.result (spents_read old) c.read_section.ensures (spents-reads old)
