use Rattle.std.proofs.Common.{length, get_or, ap, refl, sym, arith}
use Rattle.sim_batch.specs.Words.{bit_of_word}
use Rattle.sim_batch.proofs.Drawn.{free_count_next, free_count_room, reset_state_next}
use Rattle.sim_batch.proofs.words.reset_state.Goals as goal

pub overflow_add-next : goal.overflow_add-next
overflow_add-next c = omega (
  arith,
  c.loop-latch.invariant.next,
  c.free_bits-next.ensures,
  free_count_room c.as_slice-latch-items.result.now c.loop-latch.latch-index c.latch-item.result c.loop-latch-test.true (sym c.latch-item.is),
  ap length c.as_slice-latch-items.ensures,
  ap length c.latches.ensures,
  c.is_well_formed.ensures.sized.latches,
)

pub loop-latch-preserved : goal.loop-latch-preserved
loop-latch-preserved c =
    let items = c.as_slice-latch-items.result.now in
    let i = c.loop-latch.latch-index in
    record {
      state = rw (
        c.in_ok-push.ensures.ok,
        reset_state_next (λ k. bit_of_word c.args.lane (get_or c.args.words.now k 0)) items i c.latch-item.result c.loop-latch-test.true (sym c.latch-item.is),
        c.loop-latch.invariant.state,
        c.start_value.ensures,
        c.lane_bit_of-bit.ensures,
        c.loop-latch.invariant.next,
      ) refl;
      next = omega (arith, c.loop-latch.invariant.next, c.free_bits-next.ensures, free_count_next items i c.latch-item.result c.loop-latch-test.true (sym c.latch-item.is));
    }
