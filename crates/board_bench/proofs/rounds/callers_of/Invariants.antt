use Rattle.std.proofs.Common.{All, length}
use Rattle.goal_board.specs.Passes.{PassState, IsPassOf}
use Rattle.board_bench.specs.Callers.{IsReady}
use Rattle.board_bench.specs.declared.caller.Caller.{Caller}
use Rattle.board_bench.proofs.rounds.callers_of.Given as goal

abbrev pub invariant-loop-pass : goal.invariant-loop-pass
invariant-loop-pass l = record {
  passes : All (IsPassOf l.board) l.passes.passes;
  callers : All (IsReady l.board) l.callers.items;
}

abbrev pub decreases-loop-pass : goal.decreases-loop-pass
decreases-loop-pass l = length l.passes.passes
