-- The seeds of the batches from reset.
use Rattle.std.specs.Prelude.{ℕ, ◌+◌, List, Option, None}
use Rattle.aig_model.specs.declared.parts.Parts.{Parts}
use Rattle.sim_walk.specs.declared.options.Options.{Options}
use Rattle.sim_batch.specs.Batch.{lanes_of}
use Rattle.sim_batch.specs.Ends.{IsLastStep}
use Rattle.sim_batch.specs.Seeds.{SeedState}
use Rattle.sim_batch.specs.SeedOf.{IsBatchSeed}

-- the seed with which batch b from reset ends, or none where no lane of it visits a step
pub record IsSeedOfBatch (c : Parts) (sig : List ℕ) (o : Options) (b : ℕ) (seed : Option SeedState) : Type 0 where
  pub last : ℕ
  pub ends : IsLastStep c sig (lanes_of c o.seed b None) o.length o.stall last
  pub is_seed : IsBatchSeed c sig None (lanes_of c o.seed b None) (last + 1) seed
