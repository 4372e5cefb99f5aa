use Rattle.std.proofs.Common.{◌≡◌, ℕ, ◌<◌, ◌≤◌}
use Rattle.sim_lanes.specs.Lanes.{goals_seen}
use Rattle.sim_lanes.proofs.best.best_lane.Given as goal

abbrev pub invariant-loop-lane : goal.invariant-loop-lane
invariant-loop-lane l = record {
  inside : l.best < l.lane;
  most_is : l.most ≡ goals_seen l.seen l.best;
  most : (j : ℕ) → j < l.lane → goals_seen l.seen j ≤ goals_seen l.seen l.best;
  least : (j : ℕ) → j < l.best → goals_seen l.seen j < goals_seen l.seen l.best;
}
