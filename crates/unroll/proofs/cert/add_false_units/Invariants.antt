use Rattle.std.proofs.Common.{◌≡◌, map, take, neg_ℤ}
use Rattle.unroll.specs.Frames.{unit_clauses}
use Rattle.unroll.specs.Building.{with_clauses}
use Rattle.unroll.proofs.cert.add_false_units.Given as goal

abbrev pub invariant-loop-lit : goal.invariant-loop-lit
invariant-loop-lit l = l.formula ≡ with_clauses l.initial.formula (unit_clauses (map neg_ℤ (take l.lit-index l.lits)))
