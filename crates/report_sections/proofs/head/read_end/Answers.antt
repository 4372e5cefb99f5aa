use Rattle.std.proofs.Common.{ap, ◌∙◌}
use Rattle.report_sections.specs.Head.{end_of}
use Rattle.report_sections.proofs.Combine.{settles-reads}
use Rattle.report_sections.proofs.HeadRead.{end_parse}
use Rattle.report_sections.proofs.head.read_end.Goals as goal

pub returns-clause-reads : goal.returns-clause-reads
returns-clause-reads c = settles-reads c.args.lines.now c.settle.new.self c.end_in-counts.result c.settle.result end_parse (c.end_in-counts.ensures ∙ ap end_of c.words.ensures) c.settle.ensures
