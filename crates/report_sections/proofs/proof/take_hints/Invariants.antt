use Rattle.std.proofs.Common.{◌≡◌, []}
use Rattle.std.specs.Prelude.{codes}
use Rattle.report_lines.specs.Words.{until}
use Rattle.report_sections.specs.Proofs.{hint_of}
use Rattle.report_sections.proofs.proof.take_hints.Given as goal

abbrev pub invariant-loop-word : goal.invariant-loop-word
invariant-loop-word l = until (codes "0") hint_of l.hints l.words ≡ until (codes "0") hint_of [] l.fn.words
