-- The blocks of the goals.
use Rattle.std.specs.Prelude.{◌≡◌, ◌<◌, ◌^◌, ℕ, List, length, slice_get, Option, Some, None}
use Rattle.aig_model.specs.Replays.{Shows}
use Rattle.aig_model.specs.declared.parts.Parts.{Parts}
use Rattle.aig_model.specs.declared.parts.Kind.{Kind}
use Rattle.aig_model.specs.declared.parts.Kind.TheVariants as verdicts
use Rattle.lrat_text.specs.declared.proof.LratStep.{LratStep}
use Rattle.lrat_text.specs.Accepted.{Accepted}
use Rattle.unroll.specs.Queries.{excludes_formula}
use Rattle.board_core.specs.declared.entry.Entry.{Entry}
use Rattle.board_core.specs.History.{first_entry}
use Rattle.report_text.specs.declared.report.Inv.{Inv}
use Rattle.report_text.specs.declared.report.GoalBlock.{GoalBlock}
use Rattle.report_text.specs.declared.report.GoalBlock.TheVariants as blocks
use Rattle.report_text.specs.declared.report.Report.{Report}
use Rattle.report_check.specs.declared.fault.CheckKind.{CheckKind}
use Rattle.report_check.specs.declared.fault.CheckKind.TheVariants as kinds
use Rattle.report_check.specs.Bounds.{depth_of, hops_of, strength_of}

-- ---- the verdict
-- there is an entry, of this kind and with this number
pub record IsPosted (first : Option Entry) (kind : Kind) (number : ℕ) : Type 0 where
  pub entry : Entry
  pub is : first ≡ Some entry
  pub kind_is : entry.kind ≡ kind
  pub number_is : entry.number ≡ number

-- the block says of the goal what its first entry does; an open goal has no entry
abbrev pub HasVerdict : List Entry → ℕ → GoalBlock → Type 0
HasVerdict es goal (blocks.Reached n witness) = IsPosted (first_entry es goal) verdicts.Reached n
HasVerdict es goal (blocks.Unreachable n inv proof) = IsPosted (first_entry es goal) verdicts.Unreachable n
HasVerdict es goal (blocks.Open depth hops strength) = first_entry es goal ≡ None

-- ---- the evidence
-- a reached goal's witness replays from reset and shows it
abbrev pub IsShown : Parts → List ℕ → ℕ → GoalBlock → Type 0
IsShown c sig goal (blocks.Reached n witness) = Shows c sig witness goal
IsShown c sig goal (blocks.Unreachable n inv proof) = Unit {0}
IsShown c sig goal (blocks.Open depth hops strength) = Unit {0}

-- an unreachable goal names a block of clauses
abbrev pub HasInv : Report → GoalBlock → Type 0
HasInv r (blocks.Reached n witness) = Unit {0}
HasInv r (blocks.Unreachable n inv proof) = inv < length r.invs
HasInv r (blocks.Open depth hops strength) = Unit {0}

-- the proof that these clauses exclude the goal is accepted
pub record IsExcludedBy (c : Parts) (sig : List ℕ) (r : Report) (goal place : ℕ) (proof : List LratStep) : Type 0 where
  pub inv : Inv
  pub at : slice_get r.invs place ≡ Some inv
  pub accepted : Accepted (excludes_formula c sig inv.clauses goal) proof

abbrev pub IsExcluded : Parts → List ℕ → Report → ℕ → GoalBlock → Type 0
IsExcluded c sig r goal (blocks.Reached n witness) = Unit {0}
IsExcluded c sig r goal (blocks.Unreachable n inv proof) = IsExcludedBy c sig r goal inv proof
IsExcluded c sig r goal (blocks.Open depth hops strength) = Unit {0}

-- an open goal has the bounds that the options, the seeds and the spent queries leave; one of the hop for each batch
abbrev pub HasBounds : Report → ℕ → GoalBlock → Type 0
HasBounds r goal (blocks.Reached n witness) = Unit {0}
HasBounds r goal (blocks.Unreachable n inv proof) = Unit {0}
HasBounds r goal (blocks.Open depth hops strength) = (depth ≡ depth_of r) × (hops ≡ hops_of r) × (strength ≡ strength_of r goal)

-- ---- the conditions
-- of one goal's block
pub record GoalMeets (c : Parts) (sig : List ℕ) (r : Report) (goal : ℕ) (b : GoalBlock) (kind : CheckKind) : Type 0 where
  pub verdict : kind ≡ kinds.Verdict → HasVerdict r.history goal b
  pub trace : kind ≡ kinds.Trace → IsShown c sig goal b
  pub inv : kind ≡ kinds.Inv → HasInv r b
  pub excludes : kind ≡ kinds.Excludes → IsExcluded c sig r goal b
  pub bound : kind ≡ kinds.Bound → HasBounds r goal b

-- of all of them
pub record GoalsMeet (c : Parts) (sig : List ℕ) (r : Report) (at : ℕ) (kind : CheckKind) : Type 0 where
  pub count : at ≡ 0 → kind ≡ kinds.Count → length r.goals ≡ 2 ^ length sig
  pub each : (b : GoalBlock) → slice_get r.goals at ≡ Some b → GoalMeets c sig r at b kind
