-- What a file that was written spells.
use Rattle.std.specs.Prelude.{ℕ, List, map}
use Rattle.aig_model.specs.declared.parts.AndGate.{AndGate}
use Rattle.aig_model.specs.declared.parts.Named.{Named}
use Rattle.aig_model.specs.declared.parts.Parts.{Parts}
use Rattle.aig_ascii.specs.CircuitText.{AreInOrder}
use Rattle.aig_binary.specs.Aig.{SpellsCircuit}
use Rattle.aig_binary.specs.CircuitFile.{larger_input, smaller_input}

-- the gate with its larger input on the left
abbrev pub larger_first : AndGate → AndGate
larger_first g = record { lhs = g.lhs; left = larger_input g; right = smaller_input g }

-- the file spells the circuit, with its names by section and position, and the larger input of each gate on the left
pub record ReadsBack (c : Parts) (bytes : List ℕ) : Type 0 where
  pub names : List Named
  pub ordered : AreInOrder c.names names
  pub spells : SpellsCircuit bytes (record c { gates = map larger_first c.gates; names = names })
