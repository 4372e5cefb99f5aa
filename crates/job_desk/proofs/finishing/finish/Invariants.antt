use Rattle.std.proofs.Common.{◌≡◌, ℕ, ◌+◌, ◌<◌, ◌≤◌, [], All, length, get_or, Vec, Global}
use Rattle.job_desk.specs.Lists.{total, times}
use Rattle.job_desk.specs.Draws.{draws_of}
use Rattle.job_desk.specs.Seats.{JobSeatState, IsDone}
use Rattle.job_desk.proofs.finishing.finish.Given as goal

abbrev pub invariant-loop-next : goal.invariant-loop-next
invariant-loop-next l = record {
  at : l.seat.table_id ≡ l.table.shared.table_id;
  parts : l.seat.me.0.parts + length l.seats.items ≡ l.fn.desk.callers;
  live : 0 < l.seat.me.0.parts;
  some : length l.seats.items < length l.fn.seats.seats;
  same : (k : ℕ) (d : JobSeatState) → k < length l.seats.items → get_or l.seats.items k d ≡ get_or l.fn.seats.seats k d;
  lists : length l.lists.items ≡ l.fn.desk.callers;
  left : (k : ℕ) (d : JobSeatState) (e : Vec ℕ Global) → k < length l.seats.items → (get_or l.fn.seats.seats k d).caller < l.fn.desk.callers
      → (get_or l.lists.items (get_or l.fn.seats.seats k d).caller e).items ≡ [];
  answered : (k : ℕ) (d : JobSeatState) (e : Vec ℕ Global) → length l.seats.items ≤ k → k < length l.fn.seats.seats
      → (get_or l.lists.items (get_or l.fn.seats.seats k d).caller e).items ≡ (get_or l.fn.seats.seats k d).answered;
  inside : (k : ℕ) (d : JobSeatState) → length l.seats.items ≤ k → k < length l.fn.seats.seats → (get_or l.fn.seats.seats k d).caller < l.fn.desk.callers;
  drawn : (x : ℕ) → x < l.fn.desk.jobs → draws_of x l.seat.me.0.drawn ≡ total (λ (list : Vec ℕ Global). times x list.items) l.lists.items;
  done : All IsDone l.fn.seats.seats → (n : ℕ) × (l.fn.desk.jobs ≤ n) × (0 < draws_of n l.seat.me.0.drawn);
}

abbrev pub decreases-loop-next : goal.decreases-loop-next
decreases-loop-next l = goal.left-loop-next l
