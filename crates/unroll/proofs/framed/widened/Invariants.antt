use Rattle.std.proofs.Common.{◌≡◌, take}
use Rattle.unroll.proofs.framed.widened.Given as goal

abbrev pub invariant-loop-index : goal.invariant-loop-index
invariant-loop-index l = l.wide ≡ record { vars = l.vars; clauses = take l.index l.formula.clauses }
