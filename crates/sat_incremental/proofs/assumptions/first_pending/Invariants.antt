use Rattle.std.proofs.Common.{take}
use Rattle.sat_trail.specs.Trail.{lits}
use Rattle.sat_incremental.specs.Assuming.{AreIn}
use Rattle.sat_incremental.proofs.assumptions.first_pending.Given as goal

-- the assumptions so far are true
abbrev pub invariant-loop-lit : goal.invariant-loop-lit
invariant-loop-lit l = AreIn (take l.lit-index l.assumptions) (lits l.trail.assignments)
