use Rattle.std.proofs.Common.{◌∷◌, [], length, refl, ap, arith}
use Rattle.std.specs.Prelude.{codes}
use Rattle.std.proofs.lemmas.List.{take_all}
use Rattle.report_text.specs.Text.{section_lines, number_words, query_lines}
use Rattle.report_text.proofs.Written.{section-more}
use Rattle.report_text.proofs.query_text.write_spents.Goals as goal

pub loop-block-preserved : goal.loop-block-preserved
loop-block-preserved c =
    let items = c.as_slice-block-items.ensures in
    rw (c.in_ok-write_query.ensures, c.loop-block.invariant)
    (section-more c.args.out.now (number_words (codes "spents") (length c.args.blocks.now ∷ [])) (λ _ b. query_lines (codes "spent") b) c.args.blocks.now c.loop-block.block-index c.block-item.result (omega (arith, ap length items)) (rw items at c.block-item.is))

pub returns : goal.returns
unfolding section_lines
returns c =
    let items = c.as_slice-block-items.ensures in
    rw (c.loop-block.invariant, take_all c.loop-block.block-index c.args.blocks.now (omega (arith, ap length items))) refl
