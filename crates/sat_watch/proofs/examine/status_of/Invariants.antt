use Rattle.std.proofs.Common.{take}
use Rattle.sat_trail.specs.Trail.{lits}
use Rattle.sat_watch.specs.Scanning.{HasStatus}
use Rattle.sat_watch.proofs.Status.{IsNotSatisfied}
use Rattle.sat_watch.proofs.examine.status_of.Given as goal

-- the judgement of the literals so far, of which none is true
abbrev pub invariant-loop-lit : goal.invariant-loop-lit
invariant-loop-lit l = HasStatus (lits l.trail.assignments) (take l.lit-index l.clause) l.so_far × IsNotSatisfied l.so_far
