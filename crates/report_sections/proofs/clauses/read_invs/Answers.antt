use Rattle.report_text.specs.Form.{IsCounted, FitsInv}
use Rattle.report_text.specs.Text.{invs_lines}
use Rattle.report_sections.specs.Certs.{invs_read}
use Rattle.report_sections.proofs.Combine.{gives-reads}
use Rattle.report_sections.proofs.CertsRead.{invs-reads}
use Rattle.report_sections.proofs.clauses.read_invs.Goals as goal

pub returns-clause-reads : goal.returns-clause-reads
returns-clause-reads c =
    let old = c.args.lines.now in
    gives-reads (IsCounted FitsInv) invs_lines old c.read_section.new.lines c.read_section.result (invs_read old) c.read_section.ensures (invs-reads old)
