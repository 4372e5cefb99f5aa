-- A sink in memory.
use Rattle.std.specs.Prelude.{ℕ, List}
use Rattle.run_io.specs.Numbered.{Numbered}

-- what a sink in memory shows
pub record SinkInMemory : Type 0 where
  pub taken : List ℕ
  pub room : ℕ
  pub most : ℕ
  pub writes : Numbered
  pub faults : ℕ
  pub idle : ℕ
