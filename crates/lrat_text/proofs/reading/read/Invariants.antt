use Rattle.std.proofs.Common.{◌≡◌, ◌+◌, [], length}
use Rattle.text_words.specs.Lines.{lines}
use Rattle.lrat_text.specs.Reading.{proof_from}
use Rattle.lrat_text.proofs.reading.read.Given as goal

abbrev pub invariant-loop-line : goal.invariant-loop-line
invariant-loop-line l = record {
  can : (goal.iterator-loop-line).can_next l.line-iterator;
  finite : (goal.iterator-loop-line).is_finite l.line-iterator;
  count : l.number + length l.line-iterator ≡ length (lines l.bytes);
  same : proof_from l.proof l.number l.line-iterator ≡ proof_from [] 0 (lines l.bytes);
}
