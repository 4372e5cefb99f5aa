use Rattle.std.proofs.Common.{◌≡◌, ℕ, false, take, get_or}
use Rattle.sat_learn.specs.Resolving.{with_marks}
use Rattle.sat_learn.proofs.marks.mark_all.Given as goal

-- the variables so far are marked
abbrev pub invariant-loop-lit : goal.invariant-loop-lit
invariant-loop-lit l = (v : ℕ) → get_or l.marks v false ≡ with_marks (take l.lit-index l.lits) l.initial.marks v
