use Rattle.std.proofs.Common.{◌≡◌}
use Rattle.text_words.specs.Text.{after_lines, whole}
use Rattle.aig_ascii.proofs.reading.line_place.Given as goal

abbrev pub invariant-loop-left : goal.invariant-loop-left
invariant-loop-left l = after_lines l.left l.cursor ≡ after_lines l.lines (whole l.bytes)

abbrev pub decreases-loop-left : goal.decreases-loop-left
decreases-loop-left l = l.left
