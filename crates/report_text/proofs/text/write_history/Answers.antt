use Rattle.std.proofs.Common.{◌∷◌, [], length, refl, ap, arith}
use Rattle.std.specs.Prelude.{codes}
use Rattle.std.proofs.lemmas.List.{take_all}
use Rattle.report_text.specs.Text.{section_lines, number_words, entry_words}
use Rattle.report_text.proofs.Written.{section-more_line}
use Rattle.report_text.proofs.text.write_history.Goals as goal

pub loop-entry-preserved : goal.loop-entry-preserved
loop-entry-preserved c =
    let items = c.as_slice-entry-items.ensures in
    rw (c.in_ok-write_entry.ensures, c.loop-entry.invariant, items)
    (section-more_line c.args.out.now (number_words (codes "history") (length c.args.entries.now ∷ [])) entry_words c.args.entries.now c.loop-entry.entry-index _ (omega (arith, ap length items)))

pub returns : goal.returns
unfolding section_lines
returns c =
    let items = c.as_slice-entry-items.ensures in
    rw (c.loop-entry.invariant, take_all c.loop-entry.entry-index c.args.entries.now (omega (arith, ap length items))) refl
