use Rattle.std.proofs.Common.{ℕ, ◌<◌, ◌≤◌, map, get_or}
use Rattle.sim_batch.specs.Steps.{goal_count}
use Rattle.sim_batch.proofs.batch.best_lane.Given as goal

abbrev pub invariant-loop-lane : goal.invariant-loop-lane
invariant-loop-lane l = record {
  inside : l.best < l.lane;
  most : (j : ℕ) → j < l.lane → get_or (map goal_count l.lanes) j 0 ≤ get_or (map goal_count l.lanes) l.best 0;
  least : (j : ℕ) → j < l.best → get_or (map goal_count l.lanes) j 0 < get_or (map goal_count l.lanes) l.best 0;
}
