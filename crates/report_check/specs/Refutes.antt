-- Queries that have no model.
use Rattle.std.specs.Prelude.{◌≡◌, ◌<◌, ◌≤◌, ℕ, true, List, length, take, slice_get, All, Contains, Some}
use Rattle.aig_model.specs.declared.parts.Parts.{Parts}
use Rattle.cnf_base.specs.Meaning.{CnfFormula}
use Rattle.lrat_text.specs.Accepted.{Accepted}
use Rattle.report_text.specs.declared.report.HopBound.TheVariants as hop_bounds
use Rattle.report_text.specs.declared.report.BlockName.{BlockName}
use Rattle.report_text.specs.declared.report.BlockName.TheVariants as names
use Rattle.report_text.specs.declared.report.Block.{Block}
use Rattle.report_text.specs.declared.report.Report.{Report}
use Rattle.report_check.specs.declared.fault.CheckKind.{CheckKind}
use Rattle.report_check.specs.declared.fault.CheckKind.TheVariants as kinds
use Rattle.report_check.specs.Blocks.{IsSettled, HasOpen}
use Rattle.report_check.specs.Bounds.{sweep_step, hop_step, steps_of, depth_of, hops_of}
use Rattle.report_check.specs.Queries.{IsSearch, IsFormulaOf, ComesBefore}

-- the step is the one after those that earlier queries of the same search have, which run from 0
abbrev pub IsNextStep : List Block → BlockName → Type 0
IsNextStep earlier (names.Sweep step) = step ≡ length (steps_of sweep_step earlier)
IsNextStep earlier (names.Hop batch step) = step ≡ length (steps_of (hop_step batch) earlier)
IsNextStep earlier (names.Kept place clauses) = ⊥
IsNextStep earlier (names.Excludes goal clauses) = ⊥

-- the step is one that was searched whole
abbrev pub IsWithinBound : Report → BlockName → Type 0
IsWithinBound r (names.Sweep step) = (depth : ℕ) × (depth_of r ≡ Some depth) × (step ≤ depth)
IsWithinBound r (names.Hop batch step) = (hop : ℕ) × (slice_get (hops_of r) batch ≡ Some (hop_bounds.To hop)) × (step ≤ hop)
IsWithinBound r (names.Kept place clauses) = ⊥
IsWithinBound r (names.Excludes goal clauses) = ⊥

-- A search that may be asked, which leaves out settled goals alone. The sweep stands before the hops, these stand by
-- batch, and the steps of each run from 0. Where a goal is open, no step is past those that were searched whole.
pub record IsRefuteQuery (r : Report) (place : ℕ) (b : Block) : Type 0 where
  pub proofs : r.options.proofs ≡ true
  pub search : IsSearch r b.name
  pub left_out : All (IsSettled r) b.blocked
  pub ordered : (earlier : ℕ) (a : Block) → earlier < place → slice_get r.refutes earlier ≡ Some a → ¬ ComesBefore b.name a.name
  pub next : IsNextStep (take place r.refutes) b.name
  pub near : HasOpen r → IsWithinBound r b.name

-- the proof of the query's formula is accepted
pub record IsRefuted (c : Parts) (sig : List ℕ) (r : Report) (b : Block) : Type 0 where
  pub formula : CnfFormula
  pub of_query : IsFormulaOf c sig r b.blocked b.name formula
  pub accepted : Accepted formula b.proof

-- each step that was searched whole has a query: of the sweep, and of the hop from each batch's seed
pub record AreAllTold (r : Report) : Type 0 where
  pub sweep : (depth step : ℕ) → depth_of r ≡ Some depth → step ≤ depth → Contains (steps_of sweep_step r.refutes) step
  pub hops : (batch hop step : ℕ) → slice_get (hops_of r) batch ≡ Some (hop_bounds.To hop) → step ≤ hop
      → Contains (steps_of (hop_step batch) r.refutes) step

-- ---- the conditions
pub record RefuteMeets (c : Parts) (sig : List ℕ) (r : Report) (place : ℕ) (b : Block) (kind : CheckKind) : Type 0 where
  pub query : kind ≡ kinds.Query → IsRefuteQuery r place b
  pub proof : kind ≡ kinds.Proof → IsRefuted c sig r b

-- of all of them; a step without its query is missed behind the last one
pub record RefutesMeet (c : Parts) (sig : List ℕ) (r : Report) (at : ℕ) (kind : CheckKind) : Type 0 where
  pub each : (b : Block) → slice_get r.refutes at ≡ Some b → RefuteMeets c sig r at b kind
  pub missing : at ≡ length r.refutes → kind ≡ kinds.Missing → r.options.proofs ≡ true → HasOpen r → AreAllTold r
