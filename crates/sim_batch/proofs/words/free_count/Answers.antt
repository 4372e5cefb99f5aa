use Rattle.std.proofs.Common.{length, ap, sym, arith}
use Rattle.sim_batch.proofs.Drawn.{free_count_next, free_count_room}
use Rattle.sim_batch.proofs.words.free_count.Goals as goal

pub overflow_add-count : goal.overflow_add-count
overflow_add-count c = omega (
  arith,
  c.loop-latch.invariant,
  c.free_bits-count.ensures,
  free_count_room c.as_slice-latch-items.result.now c.loop-latch.latch-index c.latch-item.result c.loop-latch-test.true (sym c.latch-item.is),
  ap length c.as_slice-latch-items.ensures,
  ap length c.latches.ensures,
  c.is_well_formed.ensures.sized.latches,
)

pub loop-latch-preserved : goal.loop-latch-preserved
loop-latch-preserved c = omega (
  arith,
  c.loop-latch.invariant,
  c.free_bits-count.ensures,
  free_count_next c.as_slice-latch-items.result.now c.loop-latch.latch-index c.latch-item.result c.loop-latch-test.true (sym c.latch-item.is),
)
