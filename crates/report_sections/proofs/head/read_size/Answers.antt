use Rattle.std.proofs.Common.{ap, ◌∙◌}
use Rattle.report_sections.specs.Head.{size_of}
use Rattle.report_sections.proofs.Combine.{settles-reads}
use Rattle.report_sections.proofs.HeadRead.{size_parse}
use Rattle.report_sections.proofs.head.read_size.Goals as goal

pub returns-clause-reads : goal.returns-clause-reads
returns-clause-reads c = settles-reads c.args.lines.now c.settle.new.self c.size_in-size.result c.settle.result size_parse (c.size_in-size.ensures ∙ ap size_of c.words.ensures) c.settle.ensures
