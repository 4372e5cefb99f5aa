use Rattle.std.proofs.Common.{ap, ◌∙◌}
use Rattle.report_sections.specs.Head.{options_of}
use Rattle.report_sections.proofs.Combine.{settles-reads}
use Rattle.report_sections.proofs.HeadRead.{options_parse}
use Rattle.report_sections.proofs.head.read_options.Goals as goal

pub returns-clause-reads : goal.returns-clause-reads
returns-clause-reads c = settles-reads c.args.lines.now c.settle.new.self c.options_in-options.result c.settle.result options_parse (c.options_in-options.ensures ∙ ap options_of c.words.ensures) c.settle.ensures
