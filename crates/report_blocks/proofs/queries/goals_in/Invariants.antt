use Rattle.std.proofs.Common.{◌≡◌, []}
use Rattle.report_blocks.specs.Queries.{goals_from}
use Rattle.report_blocks.proofs.queries.goals_in.Given as goal

abbrev pub invariant-loop-word : goal.invariant-loop-word
invariant-loop-word l = goals_from l.goals l.words ≡ goals_from [] l.fn.words
