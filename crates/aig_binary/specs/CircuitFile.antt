-- How a circuit is written as a binary file (AIGER 1.9): a header, a line for each latch, output, bad literal and constraint, the deltas of each gate, and a line for
-- each name.
use Rattle.std.specs.Prelude.{◌≡◌, ℕ, ◌-◌, min, max, codes, List, ◌++◌}
use Rattle.std.specs.List.{flat_map}
use Rattle.std.specs.Fmt.{decimal}
use Rattle.aig_model.specs.declared.parts.Latch.{Latch}
use Rattle.aig_model.specs.declared.parts.AndGate.{AndGate}
use Rattle.aig_model.specs.declared.parts.Named.{Named}
use Rattle.aig_model.specs.declared.parts.Parts.{Parts}
use Rattle.aig_ascii.specs.CircuitText.{line_text, header_numbers, lit_text, reset_numbers, symbol_text, AreInOrder}
use Rattle.aig_binary.specs.Deltas.{delta_text}

-- a latch's own literal isn't written
abbrev pub latch_line : Latch → List ℕ
latch_line l = line_text (decimal l.next) (reset_numbers l.lit l.reset)

abbrev pub larger_input : AndGate → ℕ
larger_input g = max g.left g.right

abbrev pub smaller_input : AndGate → ℕ
smaller_input g = min g.left g.right

-- the larger input by what it is below the left side, the smaller one by what it is below the larger
abbrev pub gate_bytes : AndGate → List ℕ
gate_bytes g = delta_text (g.lhs - larger_input g) ++ delta_text (larger_input g - smaller_input g)

-- the sections of a circuit, its gates and names as they stand
abbrev pub sections_bytes : Parts → List ℕ
sections_bytes c =
    flat_map latch_line c.latches
    ++ (flat_map lit_text c.outputs
    ++ (flat_map lit_text c.bads
    ++ (flat_map lit_text c.constraints
    ++ flat_map gate_bytes c.gates)))

abbrev pub parts_bytes : Parts → List ℕ
parts_bytes c = line_text (codes "aig") (header_numbers c) ++ (sections_bytes c ++ flat_map symbol_text c.names)

-- the file of a circuit, its names in order
pub record IsFileOf (c : Parts) (bytes : List ℕ) : Type 0 where
  pub names : List Named
  pub ordered : AreInOrder c.names names
  pub is : bytes ≡ parts_bytes (record c { names = names })
