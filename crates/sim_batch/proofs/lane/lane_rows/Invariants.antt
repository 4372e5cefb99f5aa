use Rattle.std.proofs.Common.{◌≡◌, ◌*◌, length, map}
use Rattle.std.specs.List.{range_with_len}
use Rattle.sim_batch.specs.Batch.{row_of_bits}
use Rattle.sim_batch.specs.Words.{after_words, bit_of_word, word_at}
use Rattle.sim_batch.proofs.lane.lane_rows.Given as goal

abbrev pub invariant-loop-step : goal.invariant-loop-step
invariant-loop-step l = record {
  size : length l.words.items ≡ length l.circuit.inputs;
  width : l.rows.width ≡ length l.circuit.inputs;
  state : l.generator ≡ after_words l.fn.generator (l._step * length l.circuit.inputs);
  rows : l.rows.rows ≡ map (row_of_bits (λ k. bit_of_word l.lane (word_at l.fn.generator k)) 0 (length l.circuit.inputs)) (range_with_len 0 l._step);
}
