use Rattle.goal_board.specs.Passes.{IsPassOf}
use Rattle.board_bench.proofs.caller.look.Given as goal

abbrev pub invariant-loop-goal : goal.invariant-loop-goal
invariant-loop-goal l = IsPassOf l.board l.pass
