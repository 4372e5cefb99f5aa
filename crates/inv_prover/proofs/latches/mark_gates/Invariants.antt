use Rattle.std.proofs.Common.{◌≡◌, ℕ, ◌+◌, ◌<◌, ◌≤◌, false, List, length, get_or}
use Rattle.aig_model.specs.declared.parts.AndGate.{AndGate}
use Rattle.inv_prover.specs.Dependents.{MarksMore, MarksDependence, IsGateClosed}
use Rattle.inv_prover.proofs.latches.mark_gates.Given as goal

abbrev pub invariant-loop-step : goal.invariant-loop-step
invariant-loop-step l =
    MarksMore l.initial.marks l.marks l.changed
    × (l.changed ≡ false → (p : ℕ) (d : AndGate) → p < length l.gates → length l.gates ≤ p + l.step → IsGateClosed l.marks (get_or l.gates p d))
    × ((sig : List ℕ) → MarksDependence l.circuit sig l.initial.marks → MarksDependence l.circuit sig l.marks)
