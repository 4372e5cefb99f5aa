use Rattle.std.proofs.Common.{◌≡◌, map, take}
use Rattle.unroll.specs.Queries.{blocking_clause}
use Rattle.unroll.specs.Building.{with_clauses}
use Rattle.unroll.proofs.search.block.Given as goal

abbrev pub invariant-loop-goal : goal.invariant-loop-goal
invariant-loop-goal l = l.formula ≡ with_clauses l.initial.formula (map (blocking_clause l.before l.lits) (take l.goal-index l.goals))
