use Rattle.std.proofs.Common.{◌≡◌, ℕ, Bool, List, length, get_or, take, ◌++◌, [], ◌∷◌, ap, sym, ◌∙◌, arith}
use Rattle.std.proofs.lemmas.List.{map_push}
use Rattle.sim_batch.specs.Batch.{free_count, start_value, reset_state}
use Rattle.sim_batch.specs.Words.{bit_of_word}
use Rattle.sim_batch.proofs.Drawn.{free_count_next, free_count_room, reset_state_next}
use Rattle.sim_lanes.specs.LaneValues.{lane_values}
use Rattle.sim_lanes.proofs.start.reset_state.Goals as goal

pub overflow_add-next : goal.overflow_add-next
overflow_add-next c = omega (
  arith,
  c.loop-latch.invariant.next,
  c.free_bits-next.ensures,
  free_count_room c.as_slice-latch-items.result.now c.loop-latch.latch-index c.latch-item.result c.loop-latch-test.true (sym c.latch-item.is),
  ap length c.as_slice-latch-items.ensures,
  ap length c.latches.ensures,
  c.is_well_formed.ensures.sized.latches,
)

pub loop-latch-preserved : goal.loop-latch-preserved
loop-latch-preserved c =
    let items = c.as_slice-latch-items.result.now in
    let i = c.loop-latch.latch-index in
    let latch = c.latch-item.result in
    let words = c.args.words.now in
    record {
      state = λ j low. (
          let bits : ℕ → Bool = λ k. bit_of_word j (get_or words k 0) in
          let word : bit_of_word j c.word_or_zero-word.result ≡ bits (free_count (take i items)) =
          ap (bit_of_word j) (c.word_or_zero-word.ensures ∙ ap (λ k. get_or words k 0) c.loop-latch.invariant.next) in
          ap (lane_values j) c.in_ok-push.ensures.items
          ∙ (map_push (bit_of_word j) c.loop-latch.state.items c.start_value.result
          ∙ (ap (λ (l : List Bool). l ++ bit_of_word j c.start_value.result ∷ []) (c.loop-latch.invariant.state j low)
          ∙ (ap (λ b. reset_state bits 0 (take i items) ++ b ∷ []) (c.start_value.ensures j low ∙ ap (start_value latch.reset) word)
          ∙ sym (reset_state_next bits items i latch c.loop-latch-test.true (sym c.latch-item.is)))))
          );
      next = omega (arith, c.loop-latch.invariant.next, c.free_bits-next.ensures, free_count_next items i latch c.loop-latch-test.true (sym c.latch-item.is));
    }
