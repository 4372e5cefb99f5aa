use Rattle.std.proofs.Common.{◌≡◌, []}
use Rattle.std.specs.Prelude.{codes}
use Rattle.report_lines.specs.Words.{until}
use Rattle.report_sections.specs.Proofs.{id_of}
use Rattle.report_sections.proofs.proof.take_ids.Given as goal

abbrev pub invariant-loop-word : goal.invariant-loop-word
invariant-loop-word l = until (codes "0") id_of l.ids l.words ≡ until (codes "0") id_of [] l.fn.words
