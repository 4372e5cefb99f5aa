-- The seeds of the batches from reset.
use Rattle.std.specs.Prelude.{◌≡◌, ℕ, List, length, slice_get, Option, Some, None}
use Rattle.aig_model.specs.declared.parts.Parts.{Parts}
use Rattle.sim_walk.specs.declared.options.Options.{Options}
use Rattle.sim_batch.specs.Seeds.{SeedState}
use Rattle.goal_facts.specs.Seeds.{IsSeedOfBatch}
use Rattle.report_text.specs.declared.report.SeedLine.{SeedLine}

-- a report's seed, as one of the circuit
abbrev pub seed_of_line : Parts → Option SeedLine → Option SeedState
seed_of_line c None = None
seed_of_line c (Some line) = Some (record { circuit = c; start = line.start; rows = line.rows; state = line.state })

-- one for each batch from reset, in their order
pub record AreSeeds (c : Parts) (sig : List ℕ) (o : Options) (seeds : List (Option SeedLine)) : Type 0 where
  pub count : length seeds ≡ o.batches
  pub each : (b : ℕ) (line : Option SeedLine) → slice_get seeds b ≡ Some line → IsSeedOfBatch c sig o b (seed_of_line c line)
