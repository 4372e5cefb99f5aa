use Rattle.std.proofs.Common.{◌≡◌, length}
use Rattle.board_bench.proofs.making.row_of.Given as goal

abbrev pub invariant-loop : goal.invariant-loop
invariant-loop l = length l.row ≡ l.counter
