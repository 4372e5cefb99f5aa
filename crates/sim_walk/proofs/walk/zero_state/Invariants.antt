use Rattle.std.proofs.Common.{◌≡◌, map, take}
use Rattle.aig_model.specs.declared.parts.Latch.{Latch}
use Rattle.sim_walk.specs.Zero.{first_value}
use Rattle.sim_walk.proofs.walk.zero_state.Given as goal

abbrev pub invariant-loop-latch : goal.invariant-loop-latch
invariant-loop-latch l = l.state ≡ map (λ (x : Latch). first_value x.reset) (take l.latch-index l.latch-items)
