use Rattle.std.proofs.Common.{◌≡◌, ◌++◌, take}
use Rattle.std.specs.List.{flat_map}
use Rattle.aig_binary.specs.CircuitFile.{gate_bytes}
use Rattle.aig_binary.proofs.writing.write_gates.Given as goal

abbrev pub invariant-loop-gate : goal.invariant-loop-gate
invariant-loop-gate l = l.text.items ≡ l.fn.text.items ++ flat_map gate_bytes (take l.gate-index l.gates)
