use Rattle.std.proofs.Common.{◌≡◌, ◌++◌}
use Rattle.text_words.specs.Text.{after_lines}
use Rattle.aig_ascii.specs.Sections.{lits_of}
use Rattle.aig_binary.specs.Sections.{lits_demands}
use Rattle.aig_binary.proofs.Counted.{SameDemands}
use Rattle.aig_binary.proofs.lines.read_lits.Given as goal

abbrev pub invariant-loop-left : goal.invariant-loop-left
invariant-loop-left l = record {
  demands : SameDemands (lits_demands l.top l.left l.cursor) (lits_demands l.top l.count l.fn.cursor);
  lits : l.lits ++ lits_of l.left l.cursor ≡ lits_of l.count l.fn.cursor;
  next : after_lines l.left l.cursor ≡ after_lines l.count l.fn.cursor;
}

abbrev pub decreases-loop-left : goal.decreases-loop-left
decreases-loop-left l = l.left
