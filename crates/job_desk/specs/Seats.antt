-- Desks and seats, as contracts see them.
use Rattle.std.specs.Prelude.{◌≡◌, ◌≢◌, ℕ, List, [], Option, None, Some, All, AllPairs, length}
use Rattle.atomic_table.specs.Seated.{TableId}

-- a desk: no other has its table; it has the numbers 0 to `jobs - 1`, and the callers 0 to `callers - 1`
pub record JobDeskState : Type 0 where
  pub table : TableId
  pub jobs : ℕ
  pub callers : ℕ

-- a seat: its desk, whose it is, the numbers that it was answered, in order, and the number at or above `jobs` that it drew, where it
-- was answered None
pub record JobSeatState : Type 0 where
  pub desk : JobDeskState
  pub caller : ℕ
  pub answered : List ℕ
  pub over : Option ℕ

-- the seats at hand, and how many seats the list was made with
pub record JobSeatsState : Type 0 where
  pub seats : List JobSeatState
  pub room : ℕ

-- a caller's seat before its first claim
abbrev pub new_seat : JobDeskState → ℕ → JobSeatState
new_seat desk caller = record { desk = desk; caller = caller; answered = []; over = None }

-- the seats are all those of the desk, in any order
pub record AreAllOf (desk : JobDeskState) (s : JobSeatsState) : Type 0 where
  pub of_desk : All (λ (seat : JobSeatState). seat.desk ≡ desk) s.seats
  pub count : length s.seats ≡ desk.callers
  pub distinct : AllPairs (λ (a b : JobSeatState). a.caller ≢ b.caller) s.seats
  pub room : s.room ≡ desk.callers

-- the seat was answered None
abbrev pub IsDone : JobSeatState → Type 0
IsDone seat = (n : ℕ) × (seat.over ≡ Some n)
