use Rattle.std.proofs.Common.{◌≡◌, take}
use Rattle.sim_batch.specs.Batch.{free_count}
use Rattle.sim_batch.proofs.words.free_count.Given as goal

abbrev pub invariant-loop-latch : goal.invariant-loop-latch
invariant-loop-latch l = l.count ≡ free_count (take l.latch-index l.latch-items)
