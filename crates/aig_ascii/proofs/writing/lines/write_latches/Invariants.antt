use Rattle.std.proofs.Common.{◌≡◌, ◌++◌, take}
use Rattle.std.specs.List.{flat_map}
use Rattle.aig_ascii.specs.CircuitText.{latch_text}
use Rattle.aig_ascii.proofs.writing.lines.write_latches.Given as goal

abbrev pub invariant-loop-latch : goal.invariant-loop-latch
invariant-loop-latch l = l.text.items ≡ l.fn.text.items ++ flat_map latch_text (take l.latch-index l.latches)
