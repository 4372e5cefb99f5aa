use Rattle.std.proofs.Common.{◌≡◌, take}
use Rattle.unroll.specs.Queries.{latch_clause}
use Rattle.unroll.proofs.cert.latch_clause.Given as goal

abbrev pub invariant-loop-lit : goal.invariant-loop-lit
invariant-loop-lit l = l.literals.items ≡ latch_clause l.lits (take l.lit-index l.clause)
