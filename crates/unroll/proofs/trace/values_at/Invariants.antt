use Rattle.std.proofs.Common.{◌≡◌, map, take, drop}
use Rattle.aig_model.specs.Literal.{value_of}
use Rattle.unroll.proofs.trace.values_at.Given as goal

abbrev pub invariant-loop-lit : goal.invariant-loop-lit
invariant-loop-lit l = l.values ≡ map (value_of (take l.width (drop l.before l.model))) (take l.lit-index l.lits)
