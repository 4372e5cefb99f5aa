-- Sets of clauses over latches, each with the proof that it's kept.
use Rattle.std.specs.Prelude.{◌≡◌, ◌≢◌, ◌<◌, ℕ, ℤ, List, [], length, get_or, All}
use Rattle.aig_model.specs.LatchClauses.{IsInvariant, IsLatchClause}
use Rattle.ketch_base.specs.First.{IsFirst}
use Rattle.aig_model.specs.WellFormed.{IsCircuit}
use Rattle.aig_model.specs.declared.parts.Parts.{Parts}
use Rattle.lrat_text.specs.declared.proof.LratStep.{LratStep}
use Rattle.lrat_text.specs.Accepted.{Accepted}
use Rattle.lrat_text.specs.Text.{IsWritable}
use Rattle.unroll.specs.Queries.{kept_formula}
use Rattle.inv_cert.specs.Resets.{HoldsAtReset, FailsAtReset}
use Rattle.inv_cert.specs.declared.fault.KeptFault.{KeptFault}
use Rattle.inv_cert.specs.declared.fault.KeptFault.TheVariants.{Count, Start, Kept, OutOfMemory}

pub record KeptClauses : Type 0 where
  pub circuit : Parts
  pub clauses : List (List ℤ)
  pub kept : List (List LratStep)

-- the proof at this place is accepted for the formula that the clause there fails after a step before which all hold
abbrev pub IsKeptBy : Parts → List (List ℤ) → List (List LratStep) → ℕ → Type 0
IsKeptBy c clauses kept k = Accepted (kept_formula c clauses k) (get_or kept k [])

-- the proof at this place isn't
pub record FailsKept (c : Parts) (clauses : List (List ℤ)) (kept : List (List LratStep)) (k : ℕ) : Type 0 where
  pub inside : k < length clauses
  pub fails : ¬ IsKeptBy c clauses kept k

-- Each clause holds at reset, and has an accepted proof that it's kept, which can be written and read back.
pub record IsKeptSet (s : KeptClauses) : Type 0 where
  pub circuit : IsCircuit s.circuit
  pub latches : All (IsLatchClause s.circuit) s.clauses
  pub starts : All (HoldsAtReset s.circuit) s.clauses
  pub count : length s.kept ≡ length s.clauses
  pub accepted : (k : ℕ) → k < length s.clauses → IsKeptBy s.circuit s.clauses s.kept k
  pub written : All IsWritable s.kept

-- The clauses of a kept set are an invariant.
abbrev pub KeptSetsAreInvariant : Type 0
KeptSetsAreInvariant = (s : KeptClauses) → IsKeptSet s → IsInvariant s.circuit s.clauses

-- why clauses are no kept set, in the order in which it's tried
abbrev pub IsCause : KeptClauses → KeptFault → Type 0
IsCause s Count = length s.kept ≢ length s.clauses
IsCause s (Start k) = (length s.kept ≡ length s.clauses) × IsFirst (FailsAtReset s.circuit s.clauses) k
IsCause s (Kept k) = (length s.kept ≡ length s.clauses) × All (HoldsAtReset s.circuit) s.clauses × IsFirst (FailsKept s.circuit s.clauses s.kept) k
IsCause s OutOfMemory = Unit {0}
