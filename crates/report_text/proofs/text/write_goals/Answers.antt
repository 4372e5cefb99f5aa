use Rattle.std.proofs.Common.{◌∷◌, [], length, refl, ap, arith}
use Rattle.std.specs.Prelude.{codes}
use Rattle.std.proofs.lemmas.List.{take_all}
use Rattle.report_text.specs.Text.{section_lines, number_words, block_lines}
use Rattle.report_text.proofs.Written.{section-more}
use Rattle.report_text.proofs.text.write_goals.Goals as goal

pub loop-goal-preserved : goal.loop-goal-preserved
loop-goal-preserved c =
    let items = c.as_slice-block-items.ensures in
    rw (c.in_ok-write_block.ensures, c.loop-goal.invariant)
    (section-more c.args.out.now (number_words (codes "goals") (length c.args.blocks.now ∷ [])) block_lines c.args.blocks.now c.loop-goal.goal c.block-item.result (omega (arith, ap length items)) (rw items at c.block-item.is))

pub returns : goal.returns
unfolding section_lines
returns c =
    let items = c.as_slice-block-items.ensures in
    rw (c.loop-goal.invariant, take_all c.loop-goal.goal c.args.blocks.now (omega (arith, ap length items))) refl
