-- What a source finds of a goal, and what is true of a goal.
use Rattle.std.specs.Prelude.{◌≡◌, ℕ, ◌*◌, ◌<◌, ◌≤◌, List, None, Some}
use Rattle.aig_model.specs.Meaning.{At, Within, Reachable}
use Rattle.aig_model.specs.declared.parts.Kind.{Kind}
use Rattle.aig_model.specs.declared.parts.Kind.TheVariants.{Reached, Unreachable}
use Rattle.aig_model.specs.declared.parts.Parts.{Parts}
use Rattle.sim_walk.specs.declared.options.Options.{Options}
use Rattle.sim_walk.specs.declared.visit.Visit.{Visit}
use Rattle.sim_walk.specs.Zero.{IsZeroVisited}
use Rattle.sim_batch.specs.Batch.{lanes_of}
use Rattle.sim_batch.specs.Seeds.{SeedState}
use Rattle.sim_batch.specs.SeedOf.{IsBatchVisit}
use Rattle.board_core.specs.declared.entry.Source.{Source}
use Rattle.board_core.specs.declared.entry.Source.TheVariants.{Zero, Walk, Sweep, Hop, Again, Proved}
use Rattle.goal_facts.specs.Invariants.{IsExcluded}
use Rattle.goal_facts.specs.Seeds.{IsSeedOfBatch}

-- batch b from reset visits the goal
pub record IsWalkVisited (c : Parts) (sig : List ℕ) (o : Options) (b goal : ℕ) : Type 0 where
  pub inside : b < o.batches
  pub visit : Visit
  pub visited : IsBatchVisit c sig (lanes_of c o.seed b None) o.length o.stall visit
  pub goal_of_visit : visit.goal ≡ goal

-- the goal is within so many steps from the state of batch b's seed
pub record IsHopReached (c : Parts) (sig : List ℕ) (o : Options) (b goal : ℕ) : Type 0 where
  pub inside : b < o.batches
  pub seed : SeedState
  pub seed_of : IsSeedOfBatch c sig o b (Some seed)
  pub t : ℕ
  pub near : t ≤ o.hop
  pub at : At c sig seed.state t goal

-- the source settles the goal
abbrev pub Found : Parts → List ℕ → Options → Source → ℕ → Type 0
Found c sig o Zero goal = IsZeroVisited c sig o.length goal
Found c sig o (Walk b) goal = IsWalkVisited c sig o b goal
Found c sig o Sweep goal = Within c sig o.depth goal
Found c sig o (Hop b) goal = IsHopReached c sig o b goal
Found c sig o (Again r) goal = (r < o.batches * o.rounds) × Reachable c sig goal
Found c sig o Proved goal = IsExcluded c sig o.strength goal

-- the goal is of this kind
abbrev pub IsOfKind : Parts → List ℕ → Kind → ℕ → Type 0
IsOfKind c sig Reached goal = Reachable c sig goal
IsOfKind c sig Unreachable goal = ¬ Reachable c sig goal
