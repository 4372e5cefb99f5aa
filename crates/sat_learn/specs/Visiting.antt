-- What a walk down the antecedents has found of the variables.
use Rattle.std.specs.Prelude.{◌≡◌, ℕ, IsTrue, nat_eq, ℤ, nat_abs, List, map, slice_index_or, ◌⊎◌}
use Rattle.std.specs.List.{list_any}
use Rattle.sat_learn.specs.declared.minimize.Visit.{Visit}
use Rattle.sat_learn.specs.declared.minimize.Visit.TheVariants.{Unknown}

-- nothing is known of any variable
abbrev pub NoneVisited : List Visit → Type 0
NoneVisited visits = (v : ℕ) → slice_index_or visits v Unknown ≡ Unknown

-- nothing is known of a variable that none of these literals has
abbrev pub AreVisitsOf : List ℤ → List Visit → Type 0
AreVisitsOf visited visits = (v : ℕ) → (slice_index_or visits v Unknown ≡ Unknown) ⊎ IsTrue (list_any (nat_eq v) (map nat_abs visited))
