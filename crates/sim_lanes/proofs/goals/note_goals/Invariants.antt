use Rattle.std.proofs.Common.{◌≡◌}
use Rattle.sim_lanes.proofs.Marks.{Noted}
use Rattle.sim_lanes.proofs.goals.note_goals.Given as goal

abbrev pub invariant-loop-lane : goal.invariant-loop-lane
invariant-loop-lane l = record {
  goals : l.visits.goals ≡ l.fn.visits.goals;
  noted : Noted l.circuit l.signals.lits l.values l.live l.step l.fn.seen l.fn.visits.visits l.lane l.rest l.seen l.visits.visits;
}
