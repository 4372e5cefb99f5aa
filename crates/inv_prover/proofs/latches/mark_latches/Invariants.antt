use Rattle.std.proofs.Common.{◌≡◌, ℕ, ◌+◌, ◌<◌, ◌≤◌, false, List, length, get_or}
use Rattle.aig_model.specs.declared.parts.Latch.{Latch}
use Rattle.inv_prover.specs.Dependents.{MarksMore, MarksDependence, IsLatchClosed}
use Rattle.inv_prover.proofs.latches.mark_latches.Given as goal

abbrev pub invariant-loop-step : goal.invariant-loop-step
invariant-loop-step l =
    MarksMore l.initial.marks l.marks l.changed
    × (l.changed ≡ false → (p : ℕ) (d : Latch) → p < length l.latches → length l.latches ≤ p + l.step → IsLatchClosed l.marks (get_or l.latches p d))
    × ((sig : List ℕ) → MarksDependence l.circuit sig l.initial.marks → MarksDependence l.circuit sig l.marks)
