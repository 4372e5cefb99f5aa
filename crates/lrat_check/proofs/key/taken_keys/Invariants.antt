use Rattle.std.proofs.Common.{take}
use Rattle.lrat_check.specs.ClauseKeys.{AreTaken}
use Rattle.lrat_check.proofs.key.taken_keys.Given as goal

abbrev pub invariant-loop-clause : goal.invariant-loop-clause
invariant-loop-clause l = AreTaken l.asked l.taken (take l.clause-index l.clauses)
