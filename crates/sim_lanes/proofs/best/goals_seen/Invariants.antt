use Rattle.std.proofs.Common.{◌≡◌, ◌≤◌, length}
use Rattle.sim_lanes.specs.Lanes.{marked_goals}
use Rattle.sim_lanes.proofs.best.goals_seen.Given as goal

abbrev pub invariant-loop-place : goal.invariant-loop-place
invariant-loop-place l = record {
  count : l.count ≡ length (marked_goals l.lane l.seen l.place);
  few : l.count ≤ l.place;
}
