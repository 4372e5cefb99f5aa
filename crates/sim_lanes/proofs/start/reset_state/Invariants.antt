use Rattle.std.proofs.Common.{◌≡◌, ◌<◌, ℕ, take, get_or}
use Rattle.sim_batch.specs.Batch.{free_count, reset_state}
use Rattle.sim_batch.specs.Words.{bit_of_word}
use Rattle.sim_lanes.specs.LaneValues.{lane_values}
use Rattle.sim_lanes.proofs.start.reset_state.Given as goal

abbrev pub invariant-loop-latch : goal.invariant-loop-latch
invariant-loop-latch l = record {
  state : (j : ℕ) → j < 64 → lane_values j l.state.items ≡ reset_state (λ k. bit_of_word j (get_or l.words k 0)) 0 (take l.latch-index l.latch-items);
  next : l.next ≡ free_count (take l.latch-index l.latch-items);
}
