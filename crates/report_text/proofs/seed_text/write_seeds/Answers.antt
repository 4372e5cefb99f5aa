use Rattle.std.proofs.Common.{◌∷◌, [], length, refl, ap, arith}
use Rattle.std.specs.Prelude.{codes}
use Rattle.std.proofs.lemmas.List.{take_all}
use Rattle.report_text.specs.Text.{section_lines, number_words, seed_lines}
use Rattle.report_text.proofs.Written.{section-more}
use Rattle.report_text.proofs.seed_text.write_seeds.Goals as goal

pub loop-batch-preserved : goal.loop-batch-preserved
loop-batch-preserved c =
    let items = c.as_slice-seed-items.ensures in
    rw (c.in_ok-write_seed.ensures, c.loop-batch.invariant)
    (section-more c.args.out.now (number_words (codes "seeds") (length c.args.seeds.now ∷ [])) seed_lines c.args.seeds.now c.loop-batch.batch c.seed-item.result (omega (arith, ap length items)) (rw items at c.seed-item.is))

pub returns : goal.returns
unfolding section_lines
returns c =
    let items = c.as_slice-seed-items.ensures in
    rw (c.loop-batch.invariant, take_all c.loop-batch.batch c.args.seeds.now (omega (arith, ap length items))) refl
