use Rattle.inv_prover.specs.Dependents.{AreFirstMarked}
use Rattle.inv_prover.proofs.latches.first_marked.Given as goal

abbrev pub invariant-loop-place : goal.invariant-loop-place
invariant-loop-place l = AreFirstMarked l.latches l.marks l.place l.found.items
