use Rattle.std.proofs.Common.{◌≡◌, ◌↔◌, ◌<◌, ℕ, drop, IsTrue}
use Rattle.aig_model.specs.Meaning.{goal_of}
use Rattle.sim_batch.specs.Words.{bit_of_word}
use Rattle.sim_lanes.specs.LaneValues.{lane_values}
use Rattle.sim_lanes.proofs.masks.lanes_of_goal.Given as goal

abbrev pub invariant-loop-place : goal.invariant-loop-place
invariant-loop-place l = record {
  goal : l.goal ≡ goal_of (drop l.place l.lits) (lane_values l.lane l.values);
  lanes : (j : ℕ) → j < 64 → IsTrue (bit_of_word j l.lanes) ↔ (IsTrue (bit_of_word j l.among) × (goal_of (drop l.place l.lits) (lane_values j l.values) ≡ l.goal));
}
