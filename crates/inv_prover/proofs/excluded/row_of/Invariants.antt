use Rattle.std.proofs.Common.{◌≡◌, map, take}
use Rattle.aig_model.specs.Literal.{value_of}
use Rattle.inv_prover.proofs.excluded.row_of.Given as goal

abbrev pub invariant-loop-lit : goal.invariant-loop-lit
invariant-loop-lit l = l.row ≡ map (value_of l.values) (take l.lit-index l.lit-items)
