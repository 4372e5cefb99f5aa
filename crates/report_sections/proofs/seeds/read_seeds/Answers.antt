use Rattle.report_text.specs.Form.{IsCounted, FitsSeed}
use Rattle.report_text.specs.Text.{seeds_lines}
use Rattle.report_sections.specs.Seeds.{seeds_read}
use Rattle.report_sections.proofs.Combine.{gives-reads}
use Rattle.report_sections.proofs.SeedsRead.{seeds-reads}
use Rattle.report_sections.proofs.seeds.read_seeds.Goals as goal

pub returns-clause-reads : goal.returns-clause-reads
returns-clause-reads c =
    let old = c.args.lines.now in
    let inputs = c.args.size.inputs in
    let latches = c.args.size.latches in
    gives-reads (IsCounted (FitsSeed inputs latches)) seeds_lines old c.read_section.new.lines c.read_section.result (seeds_read inputs latches old) c.read_section.ensures (seeds-reads inputs latches old)
