-- Orders in which gates can be evaluated, and gates that depend on themselves.
use Rattle.std.specs.Prelude.{ℕ, ◌%◌, ◌≤◌, ◌≡◌, ◌≢◌, ◌⊎◌, List, ◌∷◌, ◌++◌, All, AllPairs, Contains}
use Rattle.std.specs.List.Sorted.{IsPermutation}
use Rattle.aig_model.specs.Literal.{var}
use Rattle.aig_model.specs.WellFormed.{left_sides}
use Rattle.aig_model.specs.declared.parts.AndGate.{AndGate}
use Rattle.gate_order.specs.declared.order.fault.OrderFault.{OrderFault}
use Rattle.gate_order.specs.declared.order.fault.OrderFault.TheVariants.{Cycle, OutOfMemory}

-- each left side is even, and no two are equal: each gate defines a variable of its own
pub record DefineApart (gates : List AndGate) : Type 0 where
  pub even : All (λ lhs. lhs % 2 ≡ 0) (left_sides gates)
  pub apart : AllPairs (λ l m. l ≢ m) (left_sides gates)

-- the first gate has an input of the second one's variable, negated or not
abbrev pub Uses : AndGate → AndGate → Type 0
Uses g h = (var g.left ≡ var h.lhs) ⊎ (var g.right ≡ var h.lhs)

-- ---- orders
-- each gate that this one uses is placed
abbrev pub IsReady : List AndGate → List AndGate → AndGate → Type 0
IsReady gates placed g = (h : AndGate) → Contains gates h → Uses g h → Contains placed h

-- the gate is ready, and has the least left side of those that wait and are ready
pub record IsNext (gates placed waiting : List AndGate) (g : AndGate) : Type 0 where
  pub ready : IsReady gates placed g
  pub least : (h : AndGate) → Contains waiting h → IsReady gates placed h → g.lhs ≤ h.lhs

-- the same gates, in an order in which each one is the next after those before it
pub record IsGateOrder (gates ordered : List AndGate) : Type 0 where
  pub same : IsPermutation gates ordered
  pub next : (placed later : List AndGate) (g : AndGate) → ordered ≡ placed ++ g ∷ later → IsNext gates placed (g ∷ later) g

-- ---- gates that depend on themselves
-- a gate of the list depends on another one, through one use or more
pub data DependsOn (gates : List AndGate) : AndGate → AndGate → Type 0 where
  Directly : {g h : AndGate} → Contains gates g → Contains gates h → Uses g h → DependsOn gates g h
  Through : {g k h : AndGate} → Contains gates g → Uses g k → DependsOn gates k h → DependsOn gates g h

-- no gate depends on itself
abbrev pub IsAcyclic : List AndGate → Type 0
IsAcyclic gates = (g : AndGate) → DependsOn gates g g → ⊥

-- the gate is one that depends on itself, or depends on such a one
pub record DependsOnCycle (gates : List AndGate) (g : AndGate) : Type 0 where
  pub on : AndGate
  pub cycle : DependsOn gates on on
  pub reached : (g ≡ on) ⊎ DependsOn gates g on

-- the least left side among the gates that depend, through no gate or more, on one that depends on itself
pub record IsCycle (gates : List AndGate) (lhs : ℕ) : Type 0 where
  pub gate : AndGate
  pub depends : DependsOnCycle gates gate
  pub named : lhs ≡ gate.lhs
  pub least : (h : AndGate) → DependsOnCycle gates h → lhs ≤ h.lhs

-- what a fault says of the gates; lack of memory says nothing of them
abbrev pub IsFault : List AndGate → OrderFault → Type 0
IsFault gates (Cycle lhs) = IsCycle gates lhs
IsFault gates OutOfMemory = Unit {0}
