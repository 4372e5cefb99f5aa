use Rattle.std.proofs.Common.{◌≡◌, take, get_or}
use Rattle.sim_batch.specs.Batch.{free_count, reset_state}
use Rattle.sim_batch.specs.Words.{bit_of_word}
use Rattle.sim_batch.proofs.words.reset_state.Given as goal

abbrev pub invariant-loop-latch : goal.invariant-loop-latch
invariant-loop-latch l = record {
  state : l.state ≡ reset_state (λ k. bit_of_word l.lane (get_or l.words k 0)) 0 (take l.latch-index l.latch-items);
  next : l.next ≡ free_count (take l.latch-index l.latch-items);
}
