use Rattle.std.proofs.Common.{◌≡◌, ◌+◌, length}
use Rattle.sat_solver.proofs.ranks.Ranks.new.Given as goal

abbrev pub invariant-loop-var : goal.invariant-loop-var
invariant-loop-var l = length l.ranks.items ≡ l.vars + 1
