use Rattle.std.proofs.Common.{◌≡◌, length, Some, None}
use Rattle.command_words.specs.Settings.{given_after, given_by}
use Rattle.command_words.specs.Words.{texts}
use Rattle.command_words.proofs.settings.given_by.Given as goal

abbrev pub invariant-loop-rest : goal.invariant-loop-rest
invariant-loop-rest l = given_after (Some l.given) None (texts l.rest) ≡ given_by (texts l.fn.words)

abbrev pub decreases-loop-rest : goal.decreases-loop-rest
decreases-loop-rest l = length l.rest
