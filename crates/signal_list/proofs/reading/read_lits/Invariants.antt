use Rattle.std.proofs.Common.{◌≡◌, ◌+◌, length}
use Rattle.text_words.specs.Lines.{lines}
use Rattle.signal_list.proofs.Progress.{IsReadUpTo}
use Rattle.signal_list.proofs.reading.read_lits.Given as goal

abbrev pub invariant-loop-line : goal.invariant-loop-line
invariant-loop-line l = record {
  can : (goal.iterator-loop-line).can_next l.line-iterator;
  finite : (goal.iterator-loop-line).is_finite l.line-iterator;
  count : l.number + length l.line-iterator ≡ length (lines l.bytes);
  read : IsReadUpTo l.circuit l.bytes l.number l.line-iterator l.lits;
}
