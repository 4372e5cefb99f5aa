use Rattle.std.proofs.Common.{◌≡◌, ◌++◌, take}
use Rattle.std.specs.List.{flat_map}
use Rattle.aig_binary.specs.CircuitFile.{latch_line}
use Rattle.aig_binary.proofs.writing.write_latches.Given as goal

abbrev pub invariant-loop-latch : goal.invariant-loop-latch
invariant-loop-latch l = l.text.items ≡ l.fn.text.items ++ flat_map latch_line (take l.latch-index l.latches)
