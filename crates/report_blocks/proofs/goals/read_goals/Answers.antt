use Rattle.report_text.specs.Form.{IsCounted, FitsBlock}
use Rattle.report_text.specs.Text.{goals_lines}
use Rattle.report_sections.proofs.Combine.{gives-reads}
use Rattle.report_blocks.specs.Goals.{goals_read}
use Rattle.report_blocks.proofs.GoalsRead.{goals-reads}
use Rattle.report_blocks.proofs.goals.read_goals.Goals as goal

pub returns-clause-reads : goal.returns-clause-reads
returns-clause-reads c =
    let old = c.args.lines.now in
    let inputs = c.args.size.inputs in
    let latches = c.args.size.latches in
    gives-reads (IsCounted (FitsBlock inputs latches)) goals_lines old c.read_section.new.lines c.read_section.result (goals_read inputs latches old) c.read_section.ensures (goals-reads inputs latches old)
