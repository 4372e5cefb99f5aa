use Rattle.std.proofs.Common.{◌≡◌, ℕ, ℤ, nat_abs, IsTrue, take}
use Rattle.std.specs.List.{Contains}
use Rattle.cnf_base.specs.Status.{has}
use Rattle.sat_trail.specs.Trail.{Assignment}
use Rattle.sat_learn.specs.Resolving.{StandsAt}
use Rattle.sat_learn.proofs.roots.queue_all.Given as goal

-- the places of the literals so far are there
abbrev pub invariant-loop-lit : goal.invariant-loop-lit
invariant-loop-lit l = (x : ℤ) (i : ℕ) (p : Assignment) → IsTrue (has (take l.lit-index l.met) x) → StandsAt l.trail.assignments i p → nat_abs p.lit ≡ nat_abs x → Contains l.queue i
