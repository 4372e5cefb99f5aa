-- What a text must meet, one demand after another: each has the place and the kind of the fault that comes where it is the first that isn't met. K is a format's
-- type of kinds.
use Rattle.std.specs.Prelude.{◌≡◌, ℕ, Bool, false, IsTrue, List, ◌∷◌, ◌++◌}
use Rattle.std.specs.List.{AllByRecursion}

pub record Demand (K : Type 0) : Type 0 where
  pub at : ℕ
  pub kind : K
  pub met : Bool

abbrev pub demand : {K : Type 0} → ℕ → K → Bool → Demand K
demand at kind met = record { at = at; kind = kind; met = met }

-- what no text meets
abbrev pub never : {K : Type 0} → ℕ → K → Demand K
never at kind = demand at kind false

abbrev pub AllMet : {K : Type 0} → List (Demand K) → Type 0
AllMet demands = AllByRecursion (λ d. IsTrue d.met) demands

-- the first demand that isn't met has this place and kind
pub record IsFirstUnmet {K : Type 0} (demands : List (Demand K)) (at : ℕ) (kind : K) : Type 0 where
  pub before : List (Demand K)
  pub after : List (Demand K)
  pub parts : demands ≡ before ++ never at kind ∷ after
  pub met : AllMet before
