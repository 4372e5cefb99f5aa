use Rattle.std.proofs.Common.{◌≤◌, take}
use Rattle.aig_model.specs.Faults.{AllRight}
use Rattle.aig_model.specs.WellFormed.{latch_literals}
use Rattle.aig_model.proofs.range.check_latches.Given as goal

abbrev pub invariant-loop-latch : goal.invariant-loop-latch
invariant-loop-latch l = AllRight (λ _ lit. lit ≤ l.most) (latch_literals (take l.latch-index l.latches))
