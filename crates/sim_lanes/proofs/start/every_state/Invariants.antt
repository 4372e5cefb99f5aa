use Rattle.std.proofs.Common.{◌≡◌, ◌<◌, ℕ, take}
use Rattle.sim_lanes.specs.LaneValues.{lane_values}
use Rattle.sim_lanes.proofs.start.every_state.Given as goal

abbrev pub invariant-loop-place : goal.invariant-loop-place
invariant-loop-place l = (j : ℕ) → j < 64 → lane_values j l.state.items ≡ take l.place l.bits
