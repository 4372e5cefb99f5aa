use Rattle.std.proofs.Common.{◌≡◌, ℕ, ◌≤◌, ◌<◌, List, length, get_or}
use Rattle.sim_walk.specs.Walk.{Lane}
use Rattle.sim_batch.specs.Steps.{AreGiven, AreWalks, IsReady, VisitsBefore}
use Rattle.sim_batch.specs.declared.lane_walk.LaneWalk.{LaneWalk}
use Rattle.sim_batch.proofs.EachLane.{Round}
use Rattle.sim_batch.proofs.rounds.step_lanes.Given as goal

abbrev pub invariant-loop-place : goal.invariant-loop-place
invariant-loop-place l = record {
  size : length l.lanes.items ≡ 64;
  ready : (j : ℕ) (d : LaneWalk) → l.place ≤ j → j < 64 → IsReady l.circuit l.signals.lits l.step (get_or l.lanes.items j d);
  goals : l.visits.goals ≡ l.fn.visits.goals;
  round : (lanes : List Lane) → AreGiven l.words lanes l.step → AreWalks l.circuit l.signals.lits lanes l.step l.fn.lanes.items
      → VisitsBefore l.circuit l.signals.lits lanes l.step 0 l.fn.visits.visits → Round l.circuit l.signals.lits lanes l.step l.place l.lanes.items l.visits.visits;
}
