-- Queries that have no model, each with its proof.
use Rattle.std.specs.Prelude.{◌≡◌, ◌<◌, ◌≤◌, ◌&&◌, ℕ, suc, ◌+◌, Bool, true, false, List, [], slice_get, All, AllPairs, Option, Some, None}
use Rattle.std.specs.List.{range_with_len}
use Rattle.aig_model.specs.declared.parts.Parts.{Parts}
use Rattle.lrat_text.specs.Accepted.{Accepted}
use Rattle.lrat_text.specs.Text.{IsWritable}
use Rattle.unroll.specs.declared.start.Start.{Start}
use Rattle.unroll.specs.declared.start.Start.TheVariants.{Reset, State}
use Rattle.unroll.specs.Queries.{search_formula}
use Rattle.board_core.specs.declared.entry.Entry.{Entry}
use Rattle.report_text.specs.declared.report.BlockName.{BlockName}
use Rattle.report_text.specs.declared.report.BlockName.TheVariants as names
use Rattle.report_text.specs.declared.report.Block.{Block}
use Rattle.report_text.specs.declared.report.SeedLine.{SeedLine}
use Rattle.report_text.specs.declared.report.HopBound.{HopBound}
use Rattle.report_text.specs.declared.report.HopBound.TheVariants as hop_bounds
use Rattle.report_text.specs.declared.report.Report.{Report}
use Rattle.run_report.specs.Bounds.{sweep_step, hop_step, steps_of, bounds_of}
use Rattle.run_report.specs.Queries.{AreLeftOut, ComesBefore}
use Rattle.run_report.specs.Scope.{Scope}

-- no run from this start shows a goal that isn't left out at this step
pub record IsRefutedSearch (c : Parts) (sig : List ℕ) (es : List Entry) (start : Start) (step : ℕ) (b : Block) : Type 0 where
  pub left_out : AreLeftOut es b.blocked
  pub accepted : Accepted (search_formula c sig start step b.blocked) b.proof
  pub written : IsWritable b.proof

pub record IsRefutedHop (c : Parts) (sig : List ℕ) (es : List Entry) (seeds : List (Option SeedLine)) (batch step : ℕ) (b : Block) : Type 0 where
  pub seed : SeedLine
  pub place : slice_get seeds batch ≡ Some (Some seed)
  pub search : IsRefutedSearch c sig es (State seed.state) step b

abbrev pub IsRefutedQuery : Parts → List ℕ → List Entry → List (Option SeedLine) → BlockName → Block → Type 0
IsRefutedQuery c sig es seeds (names.Sweep step) b = IsRefutedSearch c sig es Reset step b
IsRefutedQuery c sig es seeds (names.Hop batch step) b = IsRefutedHop c sig es seeds batch step b
IsRefutedQuery c sig es seeds (names.Kept place clauses) b = ⊥
IsRefutedQuery c sig es seeds (names.Excludes goal clauses) b = ⊥

-- ---- which steps are told
-- the number of steps up to a bound
abbrev pub steps_to : Option ℕ → ℕ
steps_to None = 0
steps_to (Some t) = suc t

abbrev pub hop_steps_to : Option HopBound → ℕ
hop_steps_to None = 0
hop_steps_to (Some (hop_bounds.To t)) = suc t
hop_steps_to (Some hop_bounds.Nothing) = 0
hop_steps_to (Some hop_bounds.NoSeed) = 0

-- all steps below the number where a goal is open; and where none is, the steps from 0 on, as far as the search went
pub record AreSteps (unsettled asked bound : ℕ) (steps : List ℕ) : Type 0 where
  pub count : ℕ
  pub gapless : steps ≡ range_with_len 0 count
  pub near : count ≤ asked + 1
  pub whole : 0 < unsettled → count ≡ bound

pub record AreToldRefutes (c : Parts) (sig : List ℕ) (scope : Scope) (r : Report) : Type 0 where
  pub ordered : AllPairs (λ a b. ¬ ComesBefore b a) r.refutes
  pub each : All (λ (b : Block). IsRefutedQuery c sig r.history r.seeds b.name b) r.refutes
  pub sweep : AreSteps r.unsettled r.options.depth (steps_to (bounds_of scope r 0).depth) (steps_of sweep_step r.refutes)
  pub hops : (b : ℕ) → AreSteps r.unsettled r.options.hop (hop_steps_to (slice_get (bounds_of scope r 0).hops b)) (steps_of (hop_step b) r.refutes)

-- they are told where the options ask for them and the run keeps them
abbrev pub AreRefutesIf : Bool → Parts → List ℕ → Scope → Report → Type 0
AreRefutesIf false c sig scope r = r.refutes ≡ []
AreRefutesIf true c sig scope r = AreToldRefutes c sig scope r

abbrev pub AreRefutes : Parts → List ℕ → Scope → Report → Type 0
AreRefutes c sig scope r = AreRefutesIf (scope.refutes && r.options.proofs) c sig scope r
