use Rattle.std.proofs.Common.{◌≡◌, []}
use Rattle.std.specs.Prelude.{codes}
use Rattle.report_lines.specs.Words.{until}
use Rattle.report_blocks.specs.Goals.{hop_of}
use Rattle.report_blocks.proofs.goals.take_hops.Given as goal

abbrev pub invariant-loop-word : goal.invariant-loop-word
invariant-loop-word l = until (codes "strength") hop_of l.hops l.words ≡ until (codes "strength") hop_of [] l.fn.words
