use Rattle.std.proofs.Common.{◌≡◌, ◌⊎◌, ℕ, Bool, false, List, get_or, ap, ◌∙◌, subst, All, Contains}
use Rattle.aig_model.specs.Literal.{var}
use Rattle.inv_prover.specs.Dependents.{Marked}
use Rattle.inv_prover.proofs.Marking.{exactly}
use Rattle.inv_prover.proofs.Places.{blank}
use Rattle.inv_prover.proofs.latches.dependence.Goals as goal

pub returns-clause-exactly : goal.returns-clause-exactly
returns-clause-exactly c =
    let first = c.mark_lits.new.marks in
    let none = c.in_ok-marks.marks in
    let sig = c.args.signals.now.lits in
    let same : c.as_slice.result.now ≡ sig = c.as_slice.ensures ∙ c.lits.ensures.value in
    let only = subst (λ (xs : List ℕ). (lit : ℕ) → Marked first lit → Marked none lit ⊎ ((x : ℕ) × Contains xs x × (var lit ≡ var x))) same c.mark_lits.ensures.only in
    let marked = subst (λ (xs : List ℕ). All (Marked first) xs) same c.mark_lits.ensures.marked in
    let nothing : (v : ℕ) → get_or none v false ≡ false = λ v. ap (λ (m : List Bool). get_or m v false) c.in_ok-marks.ensures ∙ blank _ v in
    exactly c.args.circuit.now sig none first c.close.new.marks nothing only marked c.close.ensures.keeps c.close.ensures.gates c.close.ensures.latches c.close.ensures.dependence
