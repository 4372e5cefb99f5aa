use Rattle.std.proofs.Common.{◌≡◌, take}
use Rattle.std.specs.List.{flat_map}
use Rattle.aig_model.specs.declared.parts.Latch.{Latch}
use Rattle.unroll.specs.Frames.{reset_clauses}
use Rattle.unroll.specs.Building.{with_clauses}
use Rattle.unroll.proofs.entry.add_resets.Given as goal

abbrev pub invariant-loop-latch : goal.invariant-loop-latch
invariant-loop-latch l =
    l.formula ≡ with_clauses l.initial.formula (flat_map (λ (l : Latch). reset_clauses l.lit l.reset) (take l.latch-index l.latches))
