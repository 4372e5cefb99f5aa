use Rattle.std.proofs.Common.{length}
use Rattle.board_bench.specs.Callers.{IsReady}
use Rattle.board_bench.proofs.caller.post_all.Given as goal

abbrev pub invariant-loop-evidence : goal.invariant-loop-evidence
invariant-loop-evidence l = IsReady l.board l.caller

abbrev pub decreases-loop-evidence : goal.decreases-loop-evidence
decreases-loop-evidence l = length l.caller.evidence.items
