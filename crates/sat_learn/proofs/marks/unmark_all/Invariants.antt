use Rattle.std.proofs.Common.{◌≡◌, ℕ, cond, eqb, false, nat_abs, map, take, get_or}
use Rattle.std.specs.List.{list_any}
use Rattle.sat_learn.proofs.marks.unmark_all.Given as goal

-- the variables so far aren't marked
abbrev pub invariant-loop-lit : goal.invariant-loop-lit
invariant-loop-lit l = (v : ℕ) → get_or l.marks v false ≡ cond (list_any (eqb v) (map nat_abs (take l.lit-index l.lits))) false (get_or l.initial.marks v false)
