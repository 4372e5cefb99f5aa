-- The first demand that isn't met, and the answer of a call that reads what the demands are about. K is a format's type of kinds.
use Rattle.std.specs.Prelude.{◌≡◌, ℕ, Option, Some, None, Result, Ok, Err, if◌then◌else◌, List, [], ◌∷◌}
use Rattle.aig_ascii.specs.Demands.{Demand}
use Rattle.aig_ascii.specs.declared.fault.Fault.{Fault}
use Rattle.aig_ascii.specs.declared.fault.Fault.TheVariants as faults

abbrev pub first_unmet : {K : Type 0} → List (Demand K) → Option (ℕ × K)
first_unmet [] = None
first_unmet (d ∷ ds) = if d.met then first_unmet ds else Some (d.at, d.kind)

-- the fault has the place and kind of a demand
abbrev pub IsFaultOf : {K : Type 0} → Demand K → Fault K → Type 0
IsFaultOf d fault = fault ≡ faults.At d.at d.kind

-- the answer of a call that reads what these demands are about: Ok where all are met, else the first that isn't
abbrev pub Fails : {K : Type 0} → Fault K → Option (ℕ × K) → Type 0
Fails (faults.At at kind) unmet = unmet ≡ Some (at, kind)
Fails faults.OutOfMemory unmet = Unit {0}

abbrev pub Says : {A K : Type 0} → Result A (Fault K) → Option (ℕ × K) → Type 0
Says (Ok x) unmet = unmet ≡ None
Says (Err fault) unmet = Fails fault unmet
