use Rattle.std.proofs.Common.{◌≡◌, ℕ, List, length}
use Rattle.inv_prover.specs.Dependents.{Marked, MarksDependence, unmarked}
use Rattle.inv_prover.proofs.latches.close.Given as goal

abbrev pub invariant-loop : goal.invariant-loop
invariant-loop l =
    (length l.marks ≡ length l.initial.marks)
    × ((lit : ℕ) → Marked l.initial.marks lit → Marked l.marks lit)
    × ((sig : List ℕ) → MarksDependence l.circuit sig l.initial.marks → MarksDependence l.circuit sig l.marks)

abbrev pub decreases-loop : goal.decreases-loop
decreases-loop l = unmarked l.marks
