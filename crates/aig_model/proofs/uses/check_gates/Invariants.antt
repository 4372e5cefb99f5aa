use Rattle.std.proofs.Common.{take}
use Rattle.aig_model.specs.Faults.{AllRight}
use Rattle.aig_model.specs.Marks.{IsMarked}
use Rattle.aig_model.specs.WellFormed.{gate_inputs}
use Rattle.aig_model.proofs.uses.check_gates.Given as goal

abbrev pub invariant-loop-gate : goal.invariant-loop-gate
invariant-loop-gate l = AllRight (λ _ lit. IsMarked l.defined lit) (gate_inputs (take l.gate-index l.gates))
