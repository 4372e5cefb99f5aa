use Rattle.std.proofs.Common.{◌≡◌, ◌⊎◌, ℕ, length, take, All, Contains}
use Rattle.aig_model.specs.Literal.{var}
use Rattle.inv_prover.specs.Dependents.{Marked}
use Rattle.inv_prover.proofs.latches.mark_lits.Given as goal

abbrev pub invariant-loop-lit : goal.invariant-loop-lit
invariant-loop-lit l =
    (length l.marks ≡ length l.initial.marks)
    × All (Marked l.marks) (take l.lit-index l.lits)
    × ((other : ℕ) → Marked l.marks other → Marked l.initial.marks other ⊎ ((lit : ℕ) × Contains l.lits lit × (var other ≡ var lit)))
