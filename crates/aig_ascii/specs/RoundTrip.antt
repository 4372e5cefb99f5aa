-- What a text that was written spells.
use Rattle.std.specs.Prelude.{ℕ, List}
use Rattle.aig_model.specs.declared.parts.AndGate.{AndGate}
use Rattle.aig_model.specs.declared.parts.Named.{Named}
use Rattle.aig_model.specs.declared.parts.Parts.{Parts}
use Rattle.gate_order.specs.GateOrder.{IsGateOrder}
use Rattle.aig_ascii.specs.Aag.{SpellsCircuit}
use Rattle.aig_ascii.specs.CircuitText.{AreInOrder}

-- the text spells the circuit, with its names by section and position, and its gates in their order
pub record ReadsBack (c : Parts) (text : List ℕ) : Type 0 where
  pub names : List Named
  pub ordered : AreInOrder c.names names
  pub gates : List AndGate
  pub in_order : IsGateOrder c.gates gates
  pub spells : SpellsCircuit text (record c { gates = gates; names = names })
