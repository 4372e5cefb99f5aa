use Rattle.std.proofs.Common.{◌≡◌, length}
use Rattle.text_words.specs.Text.{behind_newline}
use Rattle.text_words.proofs.bytes.behind_newline.Given as goal

abbrev pub invariant-loop-rest : goal.invariant-loop-rest
invariant-loop-rest l = behind_newline l.rest ≡ behind_newline l.initial.rest

abbrev pub decreases-loop-rest : goal.decreases-loop-rest
decreases-loop-rest l = length l.rest
