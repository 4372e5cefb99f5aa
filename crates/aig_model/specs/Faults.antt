-- What keeps parts from being a circuit. The kinds of fault are tried one after another, and each names its first place.
use Rattle.std.specs.Prelude.{ℕ, ◌<◌, ◌≡◌, ◌≢◌, ◌⊎◌, List, map, length, get_or, take, drop, All, AllPairs, Contains, slice_get, Some}
use Rattle.ketch_base.specs.First.{IsFirst}
use Rattle.aig_model.specs.Literal.{var}
use Rattle.aig_model.specs.WellFormed.{literals, definers, defined, uses, left_sides, IsInRange, IsDefining, IsKnown}
use Rattle.aig_model.specs.declared.parts.AndGate.{AndGate}
use Rattle.aig_model.specs.declared.parts.Parts.{Parts}
use Rattle.aig_model.specs.declared.fault.BuildFault.{BuildFault}
use Rattle.aig_model.specs.declared.fault.BuildFault.TheVariants.{Range, Defined, Undefined, Order, OutOfMemory}

-- ---- lists in which each literal is judged after those before it
abbrev pub AllRight : (List ℕ → ℕ → Type 0) → List ℕ → Type 0
AllRight IsRight lits = (k : ℕ) → k < length lits → IsRight (take k lits) (get_or lits k 0)

-- the literal is the first that is not right
abbrev pub IsFirstWrong : (List ℕ → ℕ → Type 0) → List ℕ → ℕ → Type 0
IsFirstWrong IsRight lits lit =
    (place : ℕ) × IsFirst (λ k. (k < length lits) × (¬ IsRight (take k lits) (get_or lits k 0))) place × (get_or lits place 0 ≡ lit)

-- the literal may define a variable, and no earlier one defines it
pub record IsNewDefiner (earlier : List ℕ) (lit : ℕ) : Type 0 where
  pub defining : IsDefining lit
  pub new : ¬ Contains (map var earlier) (var lit)

-- the gate at this place uses its own or a later left side
pub record IsMisplaced (gates : List AndGate) (place : ℕ) : Type 0 where
  pub gate : AndGate
  pub at : slice_get gates place ≡ Some gate
  pub used : Contains (map var (left_sides (drop place gates))) (var gate.left) ⊎ Contains (map var (left_sides (drop place gates))) (var gate.right)

-- ---- the faults
abbrev pub IsRangeFault : Parts → ℕ → Type 0
IsRangeFault c lit = IsFirstWrong (λ _ l. IsInRange c.top l) (literals c) lit

pub record IsDefinedFault (c : Parts) (lit : ℕ) : Type 0 where
  pub in_range : All (IsInRange c.top) (literals c)
  pub first : IsFirstWrong IsNewDefiner (definers c) lit

pub record IsUndefinedFault (c : Parts) (lit : ℕ) : Type 0 where
  pub in_range : All (IsInRange c.top) (literals c)
  pub defining : All IsDefining (definers c)
  pub once : AllPairs (λ v w. v ≢ w) (defined c)
  pub first : IsFirstWrong (λ _ l. IsKnown c l) (uses c) lit

pub record IsOrderFault (c : Parts) (gate : ℕ) : Type 0 where
  pub in_range : All (IsInRange c.top) (literals c)
  pub defining : All IsDefining (definers c)
  pub once : AllPairs (λ v w. v ≢ w) (defined c)
  pub known : All (IsKnown c) (uses c)
  pub first : IsFirst (IsMisplaced c.gates) gate

-- what a fault says of the parts; lack of memory says nothing of them
abbrev pub Says : Parts → BuildFault → Type 0
Says c (Range lit) = IsRangeFault c lit
Says c (Defined lit) = IsDefinedFault c lit
Says c (Undefined lit) = IsUndefinedFault c lit
Says c (Order gate) = IsOrderFault c gate
Says c OutOfMemory = Unit {0}
