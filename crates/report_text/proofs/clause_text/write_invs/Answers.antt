use Rattle.std.proofs.Common.{◌∷◌, [], length, refl, ap, arith}
use Rattle.std.specs.Prelude.{codes}
use Rattle.std.proofs.lemmas.List.{take_all}
use Rattle.report_text.specs.Text.{section_lines, number_words, inv_lines}
use Rattle.report_text.proofs.Written.{section-more}
use Rattle.report_text.proofs.clause_text.write_invs.Goals as goal

pub loop-inv-preserved : goal.loop-inv-preserved
loop-inv-preserved c =
    let items = c.as_slice-inv-items.ensures in
    rw (c.in_ok-write_inv.ensures, c.loop-inv.invariant)
    (section-more c.args.out.now (number_words (codes "invs") (length c.args.invs.now ∷ [])) (λ _ i. inv_lines i) c.args.invs.now c.loop-inv.inv-index c.inv-item.result (omega (arith, ap length items)) (rw items at c.inv-item.is))

pub returns : goal.returns
unfolding section_lines
returns c =
    let items = c.as_slice-inv-items.ensures in
    rw (c.loop-inv.invariant, take_all c.loop-inv.inv-index c.args.invs.now (omega (arith, ap length items))) refl
