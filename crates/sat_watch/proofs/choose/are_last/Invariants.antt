use Rattle.std.proofs.Common.{◌≡◌, ◌≢◌, true, ℤ, take}
use Rattle.cnf_base.specs.Status.{has}
use Rattle.sat_watch.specs.Watching.{Lasts}
use Rattle.sat_watch.proofs.choose.are_last.Given as goal

-- no literal so far, the first one aside, is falsified after the second one
abbrev pub invariant-loop-lit : goal.invariant-loop-lit
invariant-loop-lit l = (m : ℤ) → has (take l.lit-index l.clause) m ≡ true → m ≢ l.first → Lasts l.trail.assignments l.second m
