use Rattle.std.proofs.Common.{◌≡◌, []}
use Rattle.lrat_text.specs.Reading.{list_from, deleted_of}
use Rattle.lrat_text.proofs.step.read_ids.Given as goal

abbrev pub invariant-loop-word : goal.invariant-loop-word
invariant-loop-word l = list_from deleted_of l.ids.items l.words ≡ list_from deleted_of [] l.fn.words
