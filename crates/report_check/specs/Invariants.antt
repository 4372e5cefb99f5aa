-- Blocks of clauses that hold in every state that the circuit reaches.
use Rattle.std.specs.Prelude.{◌≡◌, ◌<◌, ℕ, ℤ, List, length, slice_get, All, Some}
use Rattle.aig_model.specs.LatchClauses.{IsLatchClause}
use Rattle.aig_model.specs.declared.parts.Parts.{Parts}
use Rattle.inv_cert.specs.Resets.{HoldsAtReset}
use Rattle.inv_cert.specs.KeptSets.{IsKeptBy}
use Rattle.report_text.specs.declared.report.Inv.{Inv}
use Rattle.report_text.specs.declared.report.Report.{Report}
use Rattle.report_check.specs.declared.fault.CheckKind.{CheckKind}
use Rattle.report_check.specs.declared.fault.CheckKind.TheVariants as kinds

-- each is a clause over the latches that no reset state falsifies
pub record HoldAtReset (c : Parts) (clauses : List (List ℤ)) : Type 0 where
  pub latches : All (IsLatchClause c) clauses
  pub starts : All (HoldsAtReset c) clauses

-- each clause has an accepted proof that every legal step before which all of them hold keeps it
abbrev pub AreKept : Parts → Inv → Type 0
AreKept c i = (place : ℕ) → place < length i.clauses → IsKeptBy c i.clauses i.kept place

-- the conditions of one block
pub record InvMeets (c : Parts) (i : Inv) (kind : CheckKind) : Type 0 where
  pub start : kind ≡ kinds.Start → HoldAtReset c i.clauses
  pub kept : kind ≡ kinds.Kept → AreKept c i

abbrev pub InvsMeet : Parts → Report → ℕ → CheckKind → Type 0
InvsMeet c r at kind = (i : Inv) → slice_get r.invs at ≡ Some i → InvMeets c i kind
