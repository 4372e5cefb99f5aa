use Rattle.std.proofs.Common.{◌≡◌, []}
use Rattle.lrat_text.specs.Reading.{list_from, literal_of}
use Rattle.lrat_text.proofs.step.read_literals.Given as goal

abbrev pub invariant-loop-word : goal.invariant-loop-word
invariant-loop-word l = list_from literal_of l.lits.items l.words ≡ list_from literal_of [] l.fn.words
