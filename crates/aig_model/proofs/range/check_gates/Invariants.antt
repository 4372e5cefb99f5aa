use Rattle.std.proofs.Common.{◌≤◌, take}
use Rattle.aig_model.specs.Faults.{AllRight}
use Rattle.aig_model.specs.WellFormed.{gate_literals}
use Rattle.aig_model.proofs.range.check_gates.Given as goal

abbrev pub invariant-loop-gate : goal.invariant-loop-gate
invariant-loop-gate l = AllRight (λ _ lit. lit ≤ l.most) (gate_literals (take l.gate-index l.gates))
