use Rattle.std.proofs.Common.{◌≡◌, take}
use Rattle.std.specs.List.{flat_map}
use Rattle.unroll.specs.Frames.{next_clauses}
use Rattle.unroll.specs.Building.{with_clauses}
use Rattle.unroll.proofs.entry.add_nexts.Given as goal

abbrev pub invariant-loop-latch : goal.invariant-loop-latch
invariant-loop-latch l =
    l.formula ≡ with_clauses l.initial.formula (flat_map (next_clauses l.earlier l.before) (take l.latch-index l.latches))
