use Rattle.std.proofs.Common.{sym, ◌∙◌}
use Rattle.report_sections.proofs.SeedsRead.{bits_field}
use Rattle.report_blocks.proofs.witness.row_of_word.Goals as goal

pub returns-clause-wide : goal.returns-clause-wide
returns-clause-wide c = ((bits_field c.args.width).tells c.args.word.now c.in-Some.bits (sym c.in_ok-bits.ensures ∙ c.in-Some.is)).0
