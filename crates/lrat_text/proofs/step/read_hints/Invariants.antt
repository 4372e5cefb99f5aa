use Rattle.std.proofs.Common.{◌≡◌, []}
use Rattle.lrat_text.specs.Reading.{list_from, hint_of}
use Rattle.lrat_text.proofs.step.read_hints.Given as goal

abbrev pub invariant-loop-word : goal.invariant-loop-word
invariant-loop-word l = list_from hint_of l.hints.items l.words ≡ list_from hint_of [] l.fn.words
