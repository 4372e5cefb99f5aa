use Rattle.std.proofs.Common.{take}
use Rattle.aig_model.specs.WellFormed.{latch_lits}
use Rattle.unroll.specs.Building.{MarksMore}
use Rattle.unroll.proofs.undefined.mark_latches.Given as goal

abbrev pub invariant-loop-latch : goal.invariant-loop-latch
invariant-loop-latch l = MarksMore l.initial.marks l.marks (latch_lits (take l.latch-index l.latches))
