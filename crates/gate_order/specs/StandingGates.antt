-- Gates that stand in their order already.
use Rattle.std.specs.Prelude.{ℕ, ◌+◌, ◌<◌, ◌≡◌, List, All}
use Rattle.aig_model.specs.Literal.{var}
use Rattle.aig_model.specs.declared.parts.AndGate.{AndGate}
use Rattle.gate_order.specs.SortedGates.{AreSorted, gate_at}

-- the gate's variable is above those of its inputs
pub record IsAboveInputs (g : AndGate) : Type 0 where
  pub left : var g.left < var g.lhs
  pub right : var g.right < var g.lhs

-- the variables rise, and each is above those of its gate's inputs
pub record StandInOrder (gates : List AndGate) : Type 0 where
  pub rise : AreSorted gates
  pub above : All IsAboveInputs gates

-- the first so many gates stand so, and `before` is the variable of the last of them, or 0 for none
pub record StandSoFar (gates : List AndGate) (count before : ℕ) : Type 0 where
  pub rise : (j k : ℕ) → j < k → k < count → var (gate_at gates j).lhs < var (gate_at gates k).lhs
  pub above : (k : ℕ) → k < count → IsAboveInputs (gate_at gates k)
  pub none : count ≡ 0 → before ≡ 0
  pub last : (k : ℕ) → k + 1 ≡ count → before ≡ var (gate_at gates k).lhs
