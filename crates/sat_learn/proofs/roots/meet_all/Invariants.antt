use Rattle.std.proofs.Common.{◌≡◌, ℕ, false, take, get_or}
use Rattle.sat_learn.specs.Resolving.{with_marks, AreQueued}
use Rattle.sat_learn.proofs.roots.meet_all.Given as goal

-- the variables so far are marked, and those that weren't before wait
abbrev pub invariant-loop-lit : goal.invariant-loop-lit
invariant-loop-lit l =
    record {
      marked : (v : ℕ) → get_or l.marks v false ≡ with_marks (take l.lit-index l.clause) l.initial.marks v;
      queued : (place : ℕ) → AreQueued l.trail.assignments l.initial.marks l.initial.queue place → AreQueued l.trail.assignments l.marks l.queue place;
    }
