-- What a report must tell of a circuit, its signals and the options.
use Rattle.std.specs.Prelude.{◌≡◌, ℕ, ◌≤◌, ◌^◌, Bool, true, false, List, length, slice_get, count_by, All, Some, None}
use Rattle.aig_model.specs.Meaning.{At, Within}
use Rattle.aig_model.specs.Replays.{Shows}
use Rattle.aig_model.specs.LatchClauses.{Bars}
use Rattle.aig_model.specs.declared.parts.Parts.{Parts}
use Rattle.aig_model.specs.declared.parts.Kind.{Kind}
use Rattle.aig_model.specs.declared.parts.Kind.TheVariants as kinds
use Rattle.lrat_text.specs.declared.proof.LratStep.{LratStep}
use Rattle.lrat_text.specs.Accepted.{Accepted}
use Rattle.unroll.specs.Queries.{excludes_formula}
use Rattle.sim_walk.specs.declared.options.Options.{Options}
use Rattle.board_core.specs.declared.entry.Source.TheVariants as sources
use Rattle.board_core.specs.declared.entry.Entry.{Entry}
use Rattle.report_text.specs.declared.report.HopBound.TheVariants as hop_bounds
use Rattle.report_text.specs.declared.report.SeedLine.{SeedLine}
use Rattle.report_text.specs.declared.report.Inv.{Inv}
use Rattle.report_text.specs.declared.report.GoalBlock.{GoalBlock}
use Rattle.report_text.specs.declared.report.GoalBlock.TheVariants as blocks
use Rattle.report_text.specs.declared.report.Report.{Report}
use Rattle.board_core.specs.History.{IsLegalHistory, IsInOrder, first_entry, verdict_of}
use Rattle.goal_facts.specs.Found.{Found}
use Rattle.run_report.specs.Bounds.{Bounds, bounds_of}
use Rattle.run_report.specs.Invariants.{AreInvs}
use Rattle.run_report.specs.Queries.{AreSpents}
use Rattle.run_report.specs.Refutes.{AreRefutes}
use Rattle.run_report.specs.Scope.{Scope}
use Rattle.run_report.specs.Seeds.{AreSeeds}
use Rattle.report_text.specs.Form.{HasForm}
use Rattle.report_text.specs.Text.{report_text}

-- ---- what the options ask for, as far as the report's bounds reach
pub data Asked (c : Parts) (sig : List ℕ) (scope : Scope) (r : Report) (goal : ℕ) : Type 0 where
  by_zero : Found c sig r.options sources.Zero goal → Asked c sig scope r goal
  by_walk : (b : ℕ) → Found c sig r.options (sources.Walk b) goal → Asked c sig scope r goal
  by_sweep : (d : ℕ) → (bounds_of scope r goal).depth ≡ Some d → Within c sig d goal → Asked c sig scope r goal
  by_hop : (b h t : ℕ) (seed : SeedLine) → slice_get r.seeds b ≡ Some (Some seed) → slice_get (bounds_of scope r goal).hops b ≡ Some (hop_bounds.To h) → t ≤ h
      → At c sig seed.state t goal → Asked c sig scope r goal
  by_proof : (s : ℕ) → (bounds_of scope r goal).strength ≡ Some s → Found c sig r.options sources.Proved goal → Asked c sig scope r goal

-- ---- one goal's block
-- the goal's first entry is of this kind and has this number
pub record IsFirst (es : List Entry) (goal : ℕ) (kind : Kind) (number : ℕ) : Type 0 where
  pub verdict : verdict_of es goal ≡ Some kind
  pub entry : Entry
  pub first : first_entry es goal ≡ Some entry
  pub number_of : entry.number ≡ number

-- the clauses of the block at this place exclude the goal, by this accepted proof
pub record IsBarredBy (c : Parts) (sig : List ℕ) (invs : List Inv) (goal place : ℕ) (proof : List LratStep) : Type 0 where
  pub inv : Inv
  pub place_of : slice_get invs place ≡ Some inv
  pub accepted : Accepted (excludes_formula c sig inv.clauses goal) proof
  pub bars : Bars c sig inv.clauses goal

-- no entry stands for the goal, the bounds are those of the report, and nothing that was asked settles it
pub record IsLeftOpen (c : Parts) (sig : List ℕ) (scope : Scope) (r : Report) (goal : ℕ) (b : Bounds) : Type 0 where
  pub pending : verdict_of r.history goal ≡ None
  pub bounds : b ≡ bounds_of scope r goal
  pub not_asked : ¬ Asked c sig scope r goal

abbrev pub IsBlock : Parts → List ℕ → Scope → Report → ℕ → GoalBlock → Type 0
IsBlock c sig scope r goal (blocks.Reached n witness) = IsFirst r.history goal kinds.Reached n × Shows c sig witness goal
IsBlock c sig scope r goal (blocks.Unreachable n inv proof) = IsFirst r.history goal kinds.Unreachable n × IsBarredBy c sig r.invs goal inv proof
IsBlock c sig scope r goal (blocks.Open depth hops strength) = IsLeftOpen c sig scope r goal (record { depth = depth; hops = hops; strength = strength })

abbrev pub is_reached : GoalBlock → Bool
is_reached (blocks.Reached n witness) = true
is_reached (blocks.Unreachable n inv proof) = false
is_reached (blocks.Open depth hops strength) = false

abbrev pub is_unreachable : GoalBlock → Bool
is_unreachable (blocks.Reached n witness) = false
is_unreachable (blocks.Unreachable n inv proof) = true
is_unreachable (blocks.Open depth hops strength) = false

abbrev pub is_open : GoalBlock → Bool
is_open (blocks.Reached n witness) = false
is_open (blocks.Unreachable n inv proof) = false
is_open (blocks.Open depth hops strength) = true

-- ---- the whole
-- each goal that was asked for, as far as the bounds reach, is settled
abbrev pub SettlesAsked : Parts → List ℕ → Scope → Report → Type 0
SettlesAsked c sig scope r = (goal : ℕ) (b : GoalBlock) → slice_get r.goals goal ≡ Some b → Asked c sig scope r goal → is_open b ≡ false

-- what the report tells is true of the circuit, its signals and the options
pub record Tells (c : Parts) (sig : List ℕ) (o : Options) (scope : Scope) (r : Report) : Type 0 where
  pub inputs : r.inputs ≡ length c.inputs
  pub latches : r.latches ≡ length c.latches
  pub signals : r.signals ≡ length sig
  pub options : r.options ≡ o
  pub legal : IsLegalHistory o (2 ^ length sig) r.history
  pub ordered : IsInOrder r.history
  pub found : All (λ (e : Entry). Found c sig o e.source e.goal) r.history
  pub each_goal : length r.goals ≡ 2 ^ length sig
  pub goals : (goal : ℕ) (b : GoalBlock) → slice_get r.goals goal ≡ Some b → IsBlock c sig scope r goal b
  pub seeds : AreSeeds c sig o r.seeds
  pub invs : AreInvs c sig o.strength r.unreachable r.invs
  pub spents : AreSpents c sig o r.history r.seeds r.spents
  pub refutes : AreRefutes c sig scope r
  pub reached : r.reached ≡ count_by is_reached r.goals
  pub unreachable : r.unreachable ≡ count_by is_unreachable r.goals
  pub unsettled : r.unsettled ≡ count_by is_open r.goals

-- the bytes are the text of a report that tells the truth
pub record IsReport (c : Parts) (sig : List ℕ) (o : Options) (scope : Scope) (bytes : List ℕ) : Type 0 where
  pub report : Report
  pub form : HasForm report
  pub tells : Tells c sig o scope report
  pub spelled : bytes ≡ report_text report
