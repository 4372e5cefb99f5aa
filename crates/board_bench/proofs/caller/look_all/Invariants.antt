use Rattle.board_bench.specs.Callers.{IsReady}
use Rattle.board_bench.proofs.caller.look_all.Given as goal

abbrev pub invariant-loop : goal.invariant-loop
invariant-loop l = IsReady l.board l.caller
