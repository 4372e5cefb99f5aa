use Rattle.std.proofs.Common.{◌≡◌, length}
use Rattle.board_rows.proofs.posting.digits_of.Given as goal

abbrev pub invariant-loop : goal.invariant-loop
invariant-loop l = length l.digits ≡ l.counter
