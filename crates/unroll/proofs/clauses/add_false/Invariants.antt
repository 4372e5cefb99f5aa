use Rattle.std.proofs.Common.{◌≡◌, take}
use Rattle.unroll.specs.Frames.{false_clauses}
use Rattle.unroll.specs.Building.{with_clauses}
use Rattle.unroll.proofs.clauses.add_false.Given as goal

abbrev pub invariant-loop-var : goal.invariant-loop-var
invariant-loop-var l = l.formula ≡ with_clauses l.initial.formula (false_clauses l.before (take l.var-index l.vars))
