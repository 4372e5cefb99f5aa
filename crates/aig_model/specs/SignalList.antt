-- The signals of a circuit.
use Rattle.std.specs.Prelude.{ℕ, ◌<◌, ◌≤◌, ◌≢◌, List, length, All, AllPairs}
use Rattle.aig_model.specs.WellFormed.{IsInRange}
use Rattle.aig_model.specs.declared.parts.Parts.{Parts}

-- the literals, and the circuit whose signals they are
pub record SignalList : Type 0 where
  pub circuit : Parts
  pub lits : List ℕ

pub record IsSignals (c : Parts) (lits : List ℕ) : Type 0 where
  pub some : 0 < length lits
  pub few : length lits ≤ 10
  pub in_range : All (IsInRange c.top) lits
  pub once : AllPairs (λ k l. k ≢ l) lits
