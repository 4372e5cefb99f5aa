-- The greatest of some numbers.
use Rattle.std.specs.Prelude.{ℕ, ◌<◌, ◌≤◌, List, length, get_or}

-- number k is the first of the greatest
pub record IsBest (counts : List ℕ) (k : ℕ) : Type 0 where
  pub inside : k < length counts
  pub most : (j : ℕ) → j < length counts → get_or counts j 0 ≤ get_or counts k 0
  pub least : (j : ℕ) → j < k → get_or counts j 0 < get_or counts k 0
