use Rattle.std.proofs.Common.{◌≡◌, length}
use Rattle.report_sections.specs.History.{behind_front}
use Rattle.report_sections.proofs.history.behind_front.Given as goal

abbrev pub invariant-loop-front : goal.invariant-loop-front
invariant-loop-front l = behind_front l.front l.word ≡ behind_front l.fn.front l.fn.word

abbrev pub decreases-loop-front : goal.decreases-loop-front
decreases-loop-front l = length l.front
