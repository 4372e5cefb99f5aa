-- Calls that are numbered from 1, some of which fail.
use Rattle.std.specs.Prelude.{ℕ, List, Contains}
use Rattle.run_io.specs.Count.{next_count}

-- the numbers of the calls that fail, and how many calls were made
pub record Numbered : Type 0 where
  pub failing : List ℕ
  pub made : ℕ

-- the next call is one of those that fail
abbrev pub NextFails : Numbered → Type 0
NextFails calls = Contains calls.failing (next_count calls.made)

-- the same calls, after one more
abbrev pub after_call : Numbered → Numbered
after_call calls = record calls { made = next_count calls.made }
