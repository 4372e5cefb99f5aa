use Rattle.std.proofs.Common.{◌≡◌, List, ◌∙◌}
use Rattle.job_desk.specs.Seats.{JobSeatState}
use Rattle.board_rows.proofs.Listed.{moved_on}
use Rattle.board_rows.proofs.desk_rows.taken_out.Goals as goal

pub loop-seat-preserved : goal.loop-seat-preserved
loop-seat-preserved c =
    let at = c.loop-seat in
    record {
      seats = rw c.in_ok-insert.ensures.items (moved_on (λ (l : List JobSeatState). l ≡ c.args.seats.now.seats) at.seats.seats c.pop.new.self.seats at.taken.items c.in-Some.seat c.in-Some.ensures.some at.invariant.seats);
      room = c.pop.ensures.room ∙ at.invariant.room;
    }
