use Rattle.std.proofs.Common.{◌≡◌, map, take, neg_ℤ}
use Rattle.unroll.proofs.search.blocking_clause.Given as goal

abbrev pub invariant-loop-lit : goal.invariant-loop-lit
invariant-loop-lit l = l.clause.items ≡ map neg_ℤ (take l.lit-index l.lit-items)
