-- Laws of the order of gates.
use Rattle.std.specs.Prelude.{ℕ, ◌≡◌, ◌≢◌, ◌⊎◌, List, All, AllPairs}
use Rattle.aig_model.specs.WellFormed.{IsSized, IsInRange, IsDefining, IsKnown, AreNames, IsCircuit, literals, definers, defined, uses}
use Rattle.aig_model.specs.declared.parts.AndGate.{AndGate}
use Rattle.aig_model.specs.declared.parts.Parts.{Parts}
use Rattle.gate_order.specs.GateOrder.{DefineApart, IsGateOrder, IsAcyclic, IsCycle}
use Rattle.gate_order.specs.StandingGates.{StandInOrder}

-- gates have at most one order
abbrev pub OneGateOrder : Type 0
OneGateOrder = (gates ordered other : List AndGate) → DefineApart gates → IsGateOrder gates ordered → IsGateOrder gates other → ordered ≡ other

-- at most one left side is named for them
abbrev pub OneCycle : Type 0
OneCycle = (gates : List AndGate) (lhs other : ℕ) → IsCycle gates lhs → IsCycle gates other → lhs ≡ other

-- gates that have an order have no cycle
abbrev pub OrderOrCycle : Type 0
OrderOrCycle = (gates ordered : List AndGate) (lhs : ℕ) → IsGateOrder gates ordered → IsCycle gates lhs → ⊥

-- parts that are a circuit but for the order of their gates
pub record IsUnordered (c : Parts) : Type 0 where
  pub sized : IsSized c
  pub in_range : All (IsInRange c.top) (literals c)
  pub defining : All IsDefining (definers c)
  pub once : AllPairs (λ v w. v ≢ w) (defined c)
  pub known : All (IsKnown c) (uses c)
  pub names : AreNames c

-- with their gates in order they are a circuit
abbrev pub OrderedCircuit : Type 0
OrderedCircuit = (c : Parts) (ordered : List AndGate) → IsUnordered c → IsGateOrder c.gates ordered → IsCircuit (record c { gates = ordered })

-- gates that have an order
pub record HaveOrder (gates : List AndGate) : Type 0 where
  pub ordered : List AndGate
  pub order : IsGateOrder gates ordered

-- gates that have a cycle, and the left side that names it
pub record HaveCycle (gates : List AndGate) : Type 0 where
  pub lhs : ℕ
  pub cycle : IsCycle gates lhs

-- gates that define variables of their own have an order or a cycle
abbrev pub SomeOrderOrCycle : Type 0
SomeOrderOrCycle = (gates : List AndGate) → DefineApart gates → HaveOrder gates ⊎ HaveCycle gates

-- gates whose variables rise, each above those of its gate's inputs, are their own order
abbrev pub StandingOrder : Type 0
StandingOrder = (gates : List AndGate) → StandInOrder gates → IsGateOrder gates gates

-- gates none of which depends on itself have an order
abbrev pub OrderExists : Type 0
OrderExists = (gates : List AndGate) → DefineApart gates → IsAcyclic gates → HaveOrder gates
