-- The clauses by which goals are unreachable: the greatest invariant among the candidates.
use Rattle.std.specs.Prelude.{◌≡◌, ◌<◌, ℕ, zero, suc, ℤ, List, [], ◌∷◌, length, get_or, All}
use Rattle.aig_model.specs.declared.parts.Parts.{Parts}
use Rattle.lrat_text.specs.declared.proof.LratStep.{LratStep}
use Rattle.lrat_text.specs.Accepted.{Accepted}
use Rattle.lrat_text.specs.Text.{IsWritable}
use Rattle.unroll.specs.Queries.{kept_formula}
use Rattle.goal_facts.specs.Invariants.{IsGreatestInvariant}
use Rattle.report_text.specs.declared.report.Inv.{Inv}

-- each clause has an accepted proof that it's kept, which can be written and read back
pub record AreKept (c : Parts) (clauses : List (List ℤ)) (kept : List (List LratStep)) : Type 0 where
  pub count : length kept ≡ length clauses
  pub accepted : (k : ℕ) → k < length clauses → Accepted (kept_formula c clauses k) (get_or kept k [])
  pub written : All IsWritable kept

-- the greatest invariant, each clause with its proof
pub record IsInv (c : Parts) (sig : List ℕ) (strength : ℕ) (inv : Inv) : Type 0 where
  pub greatest : IsGreatestInvariant c sig strength inv.clauses
  pub kept : AreKept c inv.clauses inv.kept

-- one where some goal is unreachable, and else none
abbrev pub AreInvs : Parts → List ℕ → ℕ → ℕ → List Inv → Type 0
AreInvs c sig strength zero invs = invs ≡ []
AreInvs c sig strength (suc unreachable) invs = (inv : Inv) × (invs ≡ inv ∷ []) × IsInv c sig strength inv
