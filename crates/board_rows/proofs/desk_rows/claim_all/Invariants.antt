use Rattle.std.proofs.Common.{◌≡◌, ◌-◌, length}
use Rattle.board_rows.specs.Callers.{IsReady}
use Rattle.board_rows.proofs.desk_rows.claim_all.Given as goal

abbrev pub invariant-loop : goal.invariant-loop
invariant-loop l = record {
  ready : IsReady l.desk l.seat;
  desk : l.seat.desk ≡ l.fn.seat.desk;
  caller : l.seat.caller ≡ l.fn.seat.caller;
}

abbrev pub decreases-loop : goal.decreases-loop
decreases-loop l = l.desk.jobs - length l.seat.answered
