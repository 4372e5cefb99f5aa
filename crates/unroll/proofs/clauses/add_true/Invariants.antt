use Rattle.std.proofs.Common.{◌≡◌, take}
use Rattle.unroll.specs.Frames.{true_clauses}
use Rattle.unroll.specs.Building.{with_clauses}
use Rattle.unroll.proofs.clauses.add_true.Given as goal

abbrev pub invariant-loop-lit : goal.invariant-loop-lit
invariant-loop-lit l = l.formula ≡ with_clauses l.initial.formula (true_clauses l.before (take l.lit-index l.lits))
