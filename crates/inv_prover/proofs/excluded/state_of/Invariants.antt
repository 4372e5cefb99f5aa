use Rattle.std.proofs.Common.{◌≡◌, map, take}
use Rattle.aig_model.specs.Literal.{value_of}
use Rattle.aig_model.specs.declared.parts.Latch.{Latch}
use Rattle.inv_prover.proofs.excluded.state_of.Given as goal

abbrev pub invariant-loop-latch : goal.invariant-loop-latch
invariant-loop-latch l = l.state ≡ map (λ (x : Latch). value_of l.values x.lit) (take l.latch-index l.latch-items)
