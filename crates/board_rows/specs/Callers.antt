-- Callers of a desk.
use Rattle.std.specs.Prelude.{◌≡◌, ℕ, List, None}
use Rattle.job_desk.specs.Seats.{JobDeskState, JobSeatState, JobSeatsState, IsDone}

-- the seat may claim
pub record IsReady (desk : JobDeskState) (seat : JobSeatState) : Type 0 where
  pub of_desk : seat.desk ≡ desk
  pub early : seat.over ≡ None

-- the seat was answered None, and is the same caller's
pub record HasClaimed (before after : JobSeatState) : Type 0 where
  pub desk : after.desk ≡ before.desk
  pub caller : after.caller ≡ before.caller
  pub done : IsDone after

-- seats at hand, of a list that was made with so many
abbrev pub listed : List JobSeatState → ℕ → JobSeatsState
listed seats room = record { seats = seats; room = room }
