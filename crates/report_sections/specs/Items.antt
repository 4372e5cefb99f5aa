-- So many items, each with its lines.
use Rattle.std.specs.Prelude.{◌≡◌, ℕ, List, length}
use Rattle.std.specs.List.{AllByRecursion}

pub record HasItems {A : Type 0} (Fits : A → Type 0) (count : ℕ) (xs : List A) : Type 0 where
  pub size : length xs ≡ count
  pub each : AllByRecursion Fits xs
