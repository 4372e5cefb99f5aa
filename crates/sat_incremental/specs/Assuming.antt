-- Assumptions, and the decisions that a search takes for them.
use Rattle.std.specs.Prelude.{◌≡◌, ℕ, ◌-◌, IsTrue, ℤ, neg_ℤ, None, List, Contains, ◌⊎◌}
use Rattle.cnf_base.specs.Status.{has}
use Rattle.sat_trail.specs.declared.truth.Value.TheVariants.{Unset}
use Rattle.sat_trail.specs.Trail.{Assignment, lits, upto, value_in}
use Rattle.sat_incremental.specs.declared.assumptions.Pending.{Pending}
use Rattle.sat_incremental.specs.declared.assumptions.Pending.TheVariants as pendings

-- each literal of one list is in another
abbrev pub AreIn : List ℤ → List ℤ → Type 0
AreIn ls true_lits = (l : ℤ) → IsTrue (has ls l) → IsTrue (has true_lits l)

-- each decision is one of the assumptions, or all of these were true before it
abbrev pub AreAssumed : List ℤ → List Assignment → Type 0
AreAssumed assumptions assignments = (p : Assignment) → Contains assignments p → p.reason ≡ None
    → IsTrue (has assumptions p.lit) ⊎ AreIn assumptions (lits (upto (p.level - 1) assignments))

-- what comes next: the assumptions are all true; one is open, or one is false
abbrev pub IsPending : List ℤ → List ℤ → Pending → Type 0
IsPending assumptions true_lits pendings.AllTrue = AreIn assumptions true_lits
IsPending assumptions true_lits (pendings.Open l) = IsTrue (has assumptions l) × (value_in true_lits l ≡ Unset)
IsPending assumptions true_lits (pendings.Failed l) = IsTrue (has assumptions l) × IsTrue (has true_lits (neg_ℤ l))
