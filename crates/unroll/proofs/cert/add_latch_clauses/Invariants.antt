use Rattle.std.proofs.Common.{◌≡◌, map, take}
use Rattle.unroll.specs.Queries.{latch_clause}
use Rattle.unroll.specs.Building.{with_clauses}
use Rattle.unroll.proofs.cert.add_latch_clauses.Given as goal

abbrev pub invariant-loop-clause : goal.invariant-loop-clause
invariant-loop-clause l = l.formula ≡ with_clauses l.initial.formula (map (latch_clause l.lits) (take l.clause-index l.clauses))
