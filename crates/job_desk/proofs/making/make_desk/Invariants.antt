use Rattle.std.proofs.Common.{◌≡◌, ◌+◌, ◌-◌, ◌≤◌, [], None, map}
use Rattle.std.specs.List.{range_with_len}
use Rattle.std.specs.Vec.{vec_capacity}
use Rattle.job_desk.specs.Seats.{new_seat}
use Rattle.job_desk.specs.Inside.{desk_state}
use Rattle.job_desk.proofs.making.make_desk.Given as goal

abbrev pub invariant-loop-caller : goal.invariant-loop-caller
invariant-loop-caller l = record {
  at : l.first.table_id ≡ l.table.shared.table_id;
  slots : l.first.me.1 ≡ [];
  parts : l.first.me.0.parts + l.caller ≡ l.callers + 1;
  spare : l.first.me.0.spare + l.caller ≡ l.callers + 1;
  made : l.first.me.0.made ≡ l.caller;
  caller : l.first.me.0.caller ≡ 0;
  drawn : l.first.me.0.drawn ≡ [];
  over : l.first.me.0.over ≡ None;
  jobs : l.first.me.0.jobs ≡ l.jobs;
  callers : l.first.me.0.callers ≡ l.callers;
  seats : l.seats.items ≡ map (new_seat (desk_state l.table.shared.table_id l.table.shared.key)) (range_with_len 1 (l.caller - 1));
  room : l.callers ≤ vec_capacity l.seats;
}
