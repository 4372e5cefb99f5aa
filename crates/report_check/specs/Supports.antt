-- What a report that meets all conditions shows of the circuit.
use Rattle.std.specs.Prelude.{◌≡◌, ◌≤◌, ◌^◌, ℕ, Bool, true, List, length, slice_get, Option, Some}
use Rattle.aig_model.specs.WellFormed.{IsCircuit}
use Rattle.aig_model.specs.SignalList.{IsSignals}
use Rattle.aig_model.specs.Meaning.{IsReset, At}
use Rattle.aig_model.specs.Replays.{Shows}
use Rattle.aig_model.specs.LatchClauses.{Bars}
use Rattle.aig_model.specs.declared.parts.Parts.{Parts}
use Rattle.aig_model.specs.declared.trace.Trace.{Trace}
use Rattle.lrat_text.specs.declared.proof.LratStep.{LratStep}
use Rattle.report_text.specs.declared.report.HopBound.{HopBound}
use Rattle.report_text.specs.declared.report.HopBound.TheVariants as hop_bounds
use Rattle.report_text.specs.declared.report.SeedLine.{SeedLine}
use Rattle.report_text.specs.declared.report.Inv.{Inv}
use Rattle.report_text.specs.declared.report.GoalBlock.TheVariants as blocks
use Rattle.report_text.specs.declared.report.Report.{Report}
use Rattle.report_text.specs.Form.{HasForm}
use Rattle.report_check.specs.Conditions.{IsUpheld}

-- clauses of the report bar the goal
pub record IsBarred (c : Parts) (sig : List ℕ) (r : Report) (goal place : ℕ) : Type 0 where
  pub inv : Inv
  pub at : slice_get r.invs place ≡ Some inv
  pub bars : Bars c sig inv.clauses goal

-- no run from reset shows the goal at a step up to the depth of its line, nor one from the state of a batch's seed at a
-- step up to that batch's bound
pub record IsSearchedFor (c : Parts) (sig : List ℕ) (r : Report) (goal : ℕ) (depth : Option ℕ) (hops : List HopBound) : Type 0 where
  pub sweep : (bound step : ℕ) (state : List Bool) → depth ≡ Some bound → step ≤ bound → IsReset c state → ¬ At c sig state step goal
  pub hop : (batch bound step : ℕ) (seed : SeedLine) → slice_get r.seeds batch ≡ Some (Some seed)
      → slice_get hops batch ≡ Some (hop_bounds.To bound) → step ≤ bound → ¬ At c sig seed.state step goal

-- Each goal has one block. Of a reached goal it has a trace that shows it, of an unreachable one it names clauses that bar
-- it; and where the report has its refutations, no open goal is at a step that its line claims to have searched.
pub record IsSupported (c : Parts) (sig : List ℕ) (r : Report) : Type 0 where
  pub each : length r.goals ≡ 2 ^ length sig
  pub reached : (goal number : ℕ) (witness : Trace) → slice_get r.goals goal ≡ Some (blocks.Reached number witness) → Shows c sig witness goal
  pub unreachable : (goal number inv : ℕ) (proof : List LratStep) → slice_get r.goals goal ≡ Some (blocks.Unreachable number inv proof)
      → IsBarred c sig r goal inv
  pub open_goals : r.options.proofs ≡ true → (goal : ℕ) (depth : Option ℕ) (hops : List HopBound) (strength : Option ℕ)
      → slice_get r.goals goal ≡ Some (blocks.Open depth hops strength) → IsSearchedFor c sig r goal depth hops

-- A report of the right form that meets all conditions shows it.
abbrev pub UpheldIsSupported : Type 0
UpheldIsSupported = (c : Parts) (sig : List ℕ) (r : Report) → IsCircuit c → IsSignals c sig → HasForm r → IsUpheld c sig r → IsSupported c sig r
