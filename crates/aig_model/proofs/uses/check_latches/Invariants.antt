use Rattle.std.proofs.Common.{take}
use Rattle.aig_model.specs.Faults.{AllRight}
use Rattle.aig_model.specs.Marks.{IsMarked}
use Rattle.aig_model.specs.WellFormed.{next_lits}
use Rattle.aig_model.proofs.uses.check_latches.Given as goal

abbrev pub invariant-loop-latch : goal.invariant-loop-latch
invariant-loop-latch l = AllRight (λ _ lit. IsMarked l.defined lit) (next_lits (take l.latch-index l.latches))
