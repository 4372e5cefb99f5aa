-- The first place at which a fact holds.
use Rattle.std.specs.Prelude.{ℕ, ◌<◌}

pub record IsFirst (P : ℕ → Type 0) (k : ℕ) : Type 0 where
  pub here : P k
  pub before : (j : ℕ) → j < k → ¬ P j
