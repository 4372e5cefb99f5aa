use Rattle.std.proofs.Common.{◌≡◌, ◌++◌, take}
use Rattle.std.specs.List.{flat_map}
use Rattle.aig_ascii.specs.CircuitText.{gate_text}
use Rattle.aig_ascii.proofs.writing.lines.write_gates.Given as goal

abbrev pub invariant-loop-gate : goal.invariant-loop-gate
invariant-loop-gate l = l.text.items ≡ l.fn.text.items ++ flat_map gate_text (take l.gate-index l.gates)
