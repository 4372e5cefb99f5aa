use Rattle.std.proofs.Common.{◌≡◌, filter, take}
use Rattle.goal_circuit.specs.GoalCircuit.{is_kept}
use Rattle.goal_circuit.proofs.copying.kept_names.Given as goal

abbrev pub invariant-loop-named : goal.invariant-loop-named
invariant-loop-named l = l.kept ≡ filter is_kept (take l.named-index l.names)
