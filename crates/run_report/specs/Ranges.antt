-- The ranges of options that a run relies on.
use Rattle.std.specs.Prelude.{◌<◌, ◌≤◌, ◌+◌, ◌^◌}
use Rattle.sim_walk.specs.declared.options.Options.{Options}

-- a round's number fits a source, and so does the length of a proof its line: a refutation has one step more than the budget
pub record AreInRange (o : Options) : Type 0 where
  pub batches : o.batches ≤ 16
  pub length : 1 ≤ o.length
  pub rounds : o.rounds ≤ 16
  pub lemmas : o.lemmas + 1 < 2 ^ 32

-- what the engines of today need
pub record AreRunnable (o : Options) : Type 0 where
  pub some : 1 ≤ o.lemmas
  pub few : o.lemmas + 1 < 2 ^ 32
  pub depth : o.depth + 1 < 2 ^ 32
  pub batches : o.batches ≤ 16
  pub length : 1 ≤ o.length
  pub rounds : o.rounds ≤ 16
