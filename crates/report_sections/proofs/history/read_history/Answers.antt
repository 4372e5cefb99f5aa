use Rattle.report_text.specs.Form.{IsCounted, FitsEntry}
use Rattle.report_text.specs.Text.{history_lines}
use Rattle.report_sections.specs.History.{history_read}
use Rattle.report_sections.proofs.Combine.{gives-reads}
use Rattle.report_sections.proofs.HistoryRead.{history-reads}
use Rattle.report_sections.proofs.history.read_history.Goals as goal

pub returns-clause-reads : goal.returns-clause-reads
returns-clause-reads c =
    let old = c.args.lines.now in
    gives-reads (IsCounted FitsEntry) history_lines old c.read_section.new.lines c.read_section.result (history_read old) c.read_section.ensures (history-reads old)
