-- What desks, seats and claims are made of.
use Rattle.std.specs.Prelude.{◌≡◌, ℕ, ◌<◌, ◌≤◌, ◌^◌, ◌++◌, List, [], Option, None, Some, length, map, All, option_to_list}
use Rattle.std.specs.Vec.{vec_capacity}
use Rattle.std.specs.declared.vec.Vec.{Vec}
use Rattle.std.specs.Global.{Global}
use Rattle.atomic_table.specs.Seated.{TableId}
use Rattle.atomic_table.specs.Table.{Me}
use Rattle.job_desk.specs.declared.view.View.{View}
use Rattle.job_desk.specs.declared.view.Terms.{Terms}
use Rattle.job_desk.specs.Draws.{Draw, draw}
use Rattle.job_desk.specs.Seats.{JobDeskState, JobSeatState}

abbrev pub desk_state : TableId → Terms → JobDeskState
desk_state table terms = record { table = table; jobs = terms.jobs; callers = terms.callers }

pub record IsDeskTable (count : ℕ) (table : TableId) (terms : Terms) : Type 0 where
  pub words : table.words ≡ 1
  pub slots : table.slots ≡ 0
  pub some : 0 < terms.callers
  pub jobs : terms.jobs ≡ count

abbrev pub seat_state : TableId → View → List ℕ → JobSeatState
seat_state table v answered = record {
  desk = record { table = table; jobs = v.jobs; callers = v.callers };
  caller = v.caller;
  answered = answered;
  over = v.over;
}

-- a caller's own numbers: those that it was answered, and then the one at or above `jobs`
abbrev pub own_draws : ℕ → List ℕ → Option ℕ → List Draw
own_draws caller answered over = map (draw caller) (answered ++ option_to_list over)

pub record IsSeat (by : ℕ) (numbers : Vec ℕ Global) (me : Me (Unit {0}) View) : Type 0 where
  pub parts : me.0.parts ≡ 1
  pub slots : me.1 ≡ []
  pub caller : me.0.caller ≡ by
  pub callers : by < me.0.callers
  pub drawn : me.0.drawn ≡ own_draws by numbers.items me.0.over
  pub spare : me.0.over ≡ None → me.0.spare ≡ 1
  pub high : (n : ℕ) → me.0.over ≡ Some n → me.0.jobs ≤ n
  pub front : length numbers.items ≤ me.0.front
  pub room : me.0.jobs ≤ vec_capacity numbers

-- a view with which a caller begins
pub record IsFreshView (by count : ℕ) (v : View) : Type 0 where
  pub parts : v.parts ≡ 1
  pub caller : v.caller ≡ by
  pub callers : by < v.callers
  pub drawn : v.drawn ≡ []
  pub over : v.over ≡ None
  pub spare : v.spare ≡ 1
  pub jobs : v.jobs ≡ count

abbrev pub AreEmpty : List (Vec ℕ Global) → Type 0
AreEmpty lists = All (λ (list : Vec ℕ Global). list.items ≡ []) lists

-- the seats' list has room for as many as there are lists, which are empty
pub record AreSeats (seats : Vec JobSeatState Global) (lists : Vec (Vec ℕ Global) Global) : Type 0 where
  pub few : length seats.items ≤ length lists.items
  pub capacity : length lists.items ≤ vec_capacity seats
  pub number : length lists.items < 2 ^ 32
  pub empty : AreEmpty lists.items

abbrev pub number_lists : List (Vec ℕ Global) → List (List ℕ)
number_lists lists = map (λ (list : Vec ℕ Global). list.items) lists
