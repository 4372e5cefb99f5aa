use Rattle.std.proofs.Common.{ap, ◌∙◌}
use Rattle.report_sections.specs.Head.{title_of}
use Rattle.report_sections.proofs.Combine.{settles-reads}
use Rattle.report_sections.proofs.HeadRead.{title_parse}
use Rattle.report_sections.proofs.head.read_title.Goals as goal

pub returns-clause-reads : goal.returns-clause-reads
returns-clause-reads c = settles-reads c.args.lines.now c.settle.new.self c.title_in-version.result c.settle.result title_parse (c.title_in-version.ensures ∙ ap title_of c.words.ensures) c.settle.ensures
