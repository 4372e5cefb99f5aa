use Rattle.report_text.specs.Form.{IsCounted, FitsRefute}
use Rattle.report_text.specs.Text.{refutes_lines}
use Rattle.report_sections.proofs.Combine.{gives-reads}
use Rattle.report_blocks.specs.Queries.{refutes_read}
use Rattle.report_blocks.proofs.QueriesRead.{refutes-reads}
use Rattle.report_blocks.proofs.queries.read_refutes.Goals as goal

pub returns-clause-reads : goal.returns-clause-reads
returns-clause-reads c =
    let old = c.args.lines.now in
    gives-reads (IsCounted FitsRefute) refutes_lines old c.read_section.new.lines c.read_section.result (refutes_read old) c.read_section.ensures (refutes-reads old)
