-- How the jobs of a run end, and what each end says of the history.
use Rattle.std.specs.Prelude.{◌≡◌, ◌⊎◌, ◌<◌, ◌≤◌, ◌+◌, ◌^◌, ℕ, ℤ, ◌∷◌, [], Bool, true, false, List, length, slice_get, All, AllPairs, Any, Option, Some, None, IfSome}
use Rattle.aig_model.specs.Meaning.{At, Within}
use Rattle.aig_model.specs.declared.parts.Parts.{Parts}
use Rattle.unroll.specs.declared.start.Start.{Start}
use Rattle.unroll.specs.declared.start.Start.TheVariants.{Reset, State}
use Rattle.sim_walk.specs.declared.options.Options.{Options}
use Rattle.sim_walk.specs.Zero.{IsZeroVisited}
use Rattle.board_core.specs.declared.entry.Entry.{Entry}
use Rattle.report_text.specs.declared.report.BlockName.TheVariants as names
use Rattle.report_text.specs.declared.report.Block.{Block}
use Rattle.report_text.specs.declared.report.Inv.{Inv}
use Rattle.report_text.specs.declared.report.SeedLine.{SeedLine}
use Rattle.run_report.specs.declared.ends.BatchEnd.{BatchEnd}
use Rattle.run_report.specs.declared.ends.ProverEnd.{ProverEnd}
use Rattle.run_report.specs.declared.ends.ProverEnd.TheVariants.{NotRun, AllSettled, Spent, Whole}
use Rattle.run_report.specs.declared.ends.SearchBlocks.{SearchBlocks}
use Rattle.run_report.specs.declared.ends.Ends.{Ends}
use Rattle.run_report.specs.declared.searches.Search.{Search}
use Rattle.run_report.specs.declared.searches.Search.TheVariants as searches
use Rattle.run_report.specs.Bounds.{first_step, whole_up_to}
use Rattle.goal_facts.specs.Found.{IsWalkVisited}
use Rattle.goal_facts.specs.Invariants.{Excludes}
use Rattle.run_report.specs.Invariants.{IsInv}
use Rattle.run_report.specs.Posts.{HasEntry}
use Rattle.run_report.specs.Queries.{IsSpentSearch, IsSpentKept, IsSpentExcludes, item_of}
use Rattle.run_report.specs.Refutes.{IsRefutedSearch, steps_to}
use Rattle.run_report.specs.Scope.{Scope}
use Rattle.run_report.specs.Searches.{name_of, step_in}
use Rattle.goal_facts.specs.Seeds.{IsSeedOfBatch}
use Rattle.run_report.specs.Seeds.{seed_of_line}

-- the blocks of a query that may be there
abbrev pub optional : Option Block → List Block
optional None = []
optional (Some b) = b ∷ []

-- ---- the queries of a search from this start, which is asked for the steps up to a greatest one
abbrev pub IsSpentStep : Parts → List ℕ → Options → List Entry → Start → ℕ → Search → Option Block → Type 0
IsSpentStep c sig o es start greatest search spent = IfSome spent (λ (b : Block). (step : ℕ) × (b.name ≡ name_of search step) × IsSpentSearch c sig o.lemmas es start greatest step b)

-- the last query of a step that was searched whole; a refutation has one step more than the budget has lemmas
pub record IsRefutedStep (c : Parts) (sig : List ℕ) (o : Options) (es : List Entry) (start : Start) (search : Search) (step : ℕ) (b : Block) : Type 0 where
  pub name : b.name ≡ name_of search step
  pub refuted : IsRefutedSearch c sig es start step b
  pub short : length b.proof ≤ o.lemmas + 1

-- One for each step from 0 on, up to the bound where some goal has no entry. A formula has a variable for each step, so they are few.
pub record AreRefutedSteps (c : Parts) (sig : List ℕ) (o : Options) (es : List Entry) (start : Start) (greatest : ℕ) (search : Search) (bound : Option ℕ) (refuted : List Block) : Type 0 where
  pub each : (step : ℕ) (b : Block) → slice_get refuted step ≡ Some b → IsRefutedStep c sig o es start search step b
  pub near : length refuted ≤ greatest + 1
  pub few : length refuted ≤ 4000000
  pub whole : (goal : ℕ) → goal < 2 ^ length sig → ¬ HasEntry es goal → length refuted ≡ steps_to bound

-- they are told where the options ask for them
abbrev pub AreRefutedStepsIf : Bool → Parts → List ℕ → Options → List Entry → Start → ℕ → Search → Option ℕ → List Block → Type 0
AreRefutedStepsIf false c sig o es start greatest search bound refuted = refuted ≡ []
AreRefutedStepsIf true c sig o es start greatest search bound refuted = AreRefutedSteps c sig o es start greatest search bound refuted

-- the last step that was searched whole
abbrev pub last_whole : ℕ → Search → SearchBlocks → Option ℕ
last_whole greatest search blocks = whole_up_to greatest (first_step (step_in search) (optional blocks.spent))

-- ---- searches
-- Each goal within the depth, or within the step before the spent query's, has an entry.
pub record IsSweepEnd (c : Parts) (sig : List ℕ) (o : Options) (es : List Entry) (blocks : SearchBlocks) : Type 0 where
  pub settles : (d goal : ℕ) → last_whole o.depth searches.Sweep blocks ≡ Some d → Within c sig d goal → HasEntry es goal
  pub spent : IsSpentStep c sig o es Reset o.depth searches.Sweep blocks.spent
  pub refuted : AreRefutedStepsIf o.proofs c sig o es Reset o.depth searches.Sweep (last_whole o.depth searches.Sweep blocks) blocks.refuted

-- the same from the state of a batch's seed
pub record IsHopEndFrom (c : Parts) (sig : List ℕ) (o : Options) (es : List Entry) (batch : ℕ) (seed : SeedLine) (blocks : SearchBlocks) : Type 0 where
  pub settles : (h t goal : ℕ) → last_whole o.hop (searches.Hop batch) blocks ≡ Some h → t ≤ h → At c sig seed.state t goal → HasEntry es goal
  pub spent : IsSpentStep c sig o es (State seed.state) o.hop (searches.Hop batch) blocks.spent
  pub refuted : AreRefutedStepsIf o.proofs c sig o es (State seed.state) o.hop (searches.Hop batch) (last_whole o.hop (searches.Hop batch) blocks) blocks.refuted

-- without a seed there is no hop
abbrev pub no_blocks : SearchBlocks
no_blocks = record { refuted = []; spent = None }

abbrev pub IsHopEnd : Parts → List ℕ → Options → List Entry → ℕ → Option SeedLine → SearchBlocks → Type 0
IsHopEnd c sig o es batch None blocks = blocks ≡ no_blocks
IsHopEnd c sig o es batch (Some seed) blocks = IsHopEndFrom c sig o es batch seed blocks

-- ---- walks
pub record IsBatchEnd (c : Parts) (sig : List ℕ) (o : Options) (es : List Entry) (batch : ℕ) (end : BatchEnd) : Type 0 where
  pub seed : IsSeedOfBatch c sig o batch (seed_of_line c end.seed)
  pub visited : (goal : ℕ) → IsWalkVisited c sig o batch goal → HasEntry es goal
  pub hop : IsHopEnd c sig o es batch end.seed end.hop

pub record AreBatchEnds (c : Parts) (sig : List ℕ) (o : Options) (es : List Entry) (ends : List BatchEnd) : Type 0 where
  pub count : length ends ≡ o.batches
  pub each : (b : ℕ) (end : BatchEnd) → slice_get ends b ≡ Some end → IsBatchEnd c sig o es b end

-- ---- the prover
-- the clauses by which goals may be unreachable
abbrev pub inv_of : ProverEnd → Option Inv
inv_of NotRun = None
inv_of AllSettled = None
inv_of (Spent b) = None
inv_of (Whole inv spents) = Some inv

-- the query whether these clauses exclude a goal
pub record IsExcludesQuery (c : Parts) (sig : List ℕ) (o : Options) (inv : Inv) (b : Block) : Type 0 where
  pub goal : ℕ
  pub name : b.name ≡ names.Excludes goal inv.clauses
  pub spent : IsSpentExcludes c sig o goal inv.clauses b

-- The greatest invariant, each clause with its proof. Each goal that it excludes has an entry or a spent query.
pub record IsWhole (c : Parts) (sig : List ℕ) (o : Options) (es : List Entry) (inv : Inv) (spents : List Block) : Type 0 where
  pub inv_is : IsInv c sig o.strength inv
  pub queries : All (IsExcludesQuery c sig o inv) spents
  pub rising : AllPairs (λ (a b : Block). item_of a.name < item_of b.name) spents
  pub settles : (goal : ℕ) → goal < 2 ^ length sig → Excludes c sig inv.clauses goal → HasEntry es goal ⊎ Any (λ (b : Block). item_of b.name ≡ goal) spents

-- the question on which the budget was spent before the greatest invariant was found
abbrev pub IsSpentEnd : Parts → List ℕ → Options → Block → Type 0
IsSpentEnd c sig o b = (place : ℕ) × (clauses : List (List ℤ)) × (b.name ≡ names.Kept place clauses) × IsSpentKept c sig o place clauses b

abbrev pub IsProverEnd : Parts → List ℕ → Options → List Entry → ProverEnd → Type 0
IsProverEnd c sig o es NotRun = Unit {0}
IsProverEnd c sig o es AllSettled = (goal : ℕ) → goal < 2 ^ length sig → HasEntry es goal
IsProverEnd c sig o es (Spent b) = IsSpentEnd c sig o b
IsProverEnd c sig o es (Whole inv spents) = IsWhole c sig o es inv spents

-- what the run does beyond walks and searches
abbrev pub proves : ProverEnd → Bool
proves NotRun = false
proves AllSettled = true
proves (Spent b) = true
proves (Whole inv spents) = true

abbrev pub scope_of : Ends → Scope
scope_of ends = record { proves = proves ends.prover; refutes = true }

-- ---- all jobs
-- what the walk from reset with all inputs 0 visits, and how the sweep ends, is told by these entries
pub record IsSearchTold (c : Parts) (sig : List ℕ) (o : Options) (es : List Entry) (sweep : SearchBlocks) : Type 0 where
  pub visited : (goal : ℕ) → IsZeroVisited c sig o.length goal → HasEntry es goal
  pub ended : IsSweepEnd c sig o es sweep

-- what the ends say is told by these entries
pub record AreTold (c : Parts) (sig : List ℕ) (o : Options) (es : List Entry) (ends : Ends) : Type 0 where
  pub zero : (goal : ℕ) → IsZeroVisited c sig o.length goal → HasEntry es goal
  pub sweep : IsSweepEnd c sig o es ends.sweep
  pub batches : AreBatchEnds c sig o es ends.batches
  pub prover : IsProverEnd c sig o es ends.prover
