use Rattle.std.proofs.Common.{◌≡◌, ◌++◌, take}
use Rattle.aig_ascii.specs.CircuitText.{spaced}
use Rattle.aig_ascii.proofs.writing.header.push_sizes.Given as goal

abbrev pub invariant-loop-size : goal.invariant-loop-size
invariant-loop-size l = l.text.items ≡ l.fn.text.items ++ spaced (take l.size-index l.sizes)
