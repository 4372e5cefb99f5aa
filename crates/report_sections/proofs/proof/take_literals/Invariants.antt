use Rattle.std.proofs.Common.{◌≡◌, []}
use Rattle.std.specs.Prelude.{codes}
use Rattle.report_lines.specs.Words.{until}
use Rattle.report_sections.specs.Proofs.{literal_of}
use Rattle.report_sections.proofs.proof.take_literals.Given as goal

abbrev pub invariant-loop-word : goal.invariant-loop-word
invariant-loop-word l = until (codes "0") literal_of l.lits.items l.words ≡ until (codes "0") literal_of [] l.fn.words
