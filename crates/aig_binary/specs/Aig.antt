-- The binary format of circuits (AIGER 1.9): which files spell a circuit, and what the first fault of any other file is.
use Rattle.std.specs.Prelude.{◌≡◌, ℕ, ◌+◌, Result, List, [], ◌++◌}
use Rattle.ketch_base.specs.Exactly as exactly
use Rattle.aig_model.specs.declared.parts.Parts.{Parts}
use Rattle.text_words.specs.Text.{Rest, whole, next_line, after_lines, all_lines}
use Rattle.aig_ascii.specs.Demands.{Demand, AllMet, IsFirstUnmet}
use Rattle.aig_ascii.specs.Header.{sizes_of, header_demands}
use Rattle.aig_ascii.specs.declared.header.Sizes.{Sizes}
use Rattle.aig_ascii.specs.declared.header.Format.TheVariants.{Binary}
use Rattle.aig_ascii.specs.Sections.{lits_of}
use Rattle.aig_ascii.specs.Symbols.{symbol_lines, symbol_demands, symbols_of}
use Rattle.aig_ascii.specs.declared.fault.Fault.{Fault}
use Rattle.aig_ascii.specs.declared.fault.Fault.TheVariants as faults
use Rattle.aig_binary.specs.BinaryOrder.{lits_from}
use Rattle.aig_binary.specs.Kinds.{aig_kind}
use Rattle.aig_binary.specs.Sections.{lits_demands, latches_demands, latches_of, gates_demands, gates_at, behind_gates}
use Rattle.aig_binary.specs.declared.fault.AigKind.{AigKind}

-- ---- where the sections begin, and how many items each has; inputs take no bytes

pub record Layout : Type 0 where
  pub sizes : Sizes
  pub latches : Rest
  pub outputs : Rest
  pub bads : Rest
  pub constraints : Rest
  pub gates : Rest
  pub symbols : Rest

abbrev pub layout_from : Sizes → Rest → Layout
layout_from s r =
    let outputs = after_lines s.latches r in
    let bads = after_lines s.outputs outputs in
    let constraints = after_lines s.bads bads in
    let gates = after_lines s.constraints constraints in
    record {
      sizes = s;
      latches = r;
      outputs = outputs;
      bads = bads;
      constraints = constraints;
      gates = gates;
      symbols = behind_gates s.gates gates;
    }

abbrev pub layout_of : List ℕ → Layout
layout_of bytes = layout_from (sizes_of (whole bytes)) (next_line (whole bytes))

-- ---- what the sections spell

-- the variables of the first latch and of the first gate
abbrev pub first_latch : Sizes → ℕ
first_latch s = 1 + s.inputs

abbrev pub first_gate : Sizes → ℕ
first_gate s = 1 + s.inputs + s.latches

abbrev pub parts_in : Layout → Parts
parts_in l = record {
  top = l.sizes.top;
  inputs = lits_from 1 l.sizes.inputs;
  latches = latches_of (first_latch l.sizes) l.sizes.latches l.latches;
  outputs = lits_of l.sizes.outputs l.outputs;
  bads = lits_of l.sizes.bads l.bads;
  constraints = lits_of l.sizes.constraints l.constraints;
  gates = gates_at (first_gate l.sizes) l.sizes.gates l.gates;
  names = symbols_of (symbol_lines (all_lines l.symbols));
}

-- ---- what is asked

-- the lines of the sections
abbrev pub line_section_demands : Layout → List (Demand AigKind)
line_section_demands l =
    let top = l.sizes.top in
    latches_demands top (first_latch l.sizes) l.sizes.latches l.latches
    ++ (lits_demands top l.sizes.outputs l.outputs
    ++ (lits_demands top l.sizes.bads l.bads
    ++ lits_demands top l.sizes.constraints l.constraints))

-- the header, the lines, the gates, the symbols
abbrev pub demands : List ℕ → List (Demand AigKind)
demands bytes =
    let l = layout_of bytes in
    header_demands aig_kind Binary (whole bytes)
    ++ (line_section_demands l
    ++ (gates_demands (first_gate l.sizes) l.sizes.gates l.gates
    ++ symbol_demands aig_kind l.sizes [] (symbol_lines (all_lines l.symbols))))

-- ---- the circuit of a file, and its first fault

-- all demands are met, and the circuit is what the sections spell
pub record SpellsCircuit (bytes : List ℕ) (c : Parts) : Type 0 where
  pub right : AllMet (demands bytes)
  pub parts : c ≡ parts_in (layout_of bytes)

-- the first fault of a file has this kind, and is seen at this place
abbrev pub IsFirstFault : List ℕ → ℕ → AigKind → Type 0
IsFirstFault bytes at kind = IsFirstUnmet (demands bytes) at kind

-- ---- what a call answers

-- a fault other than out of memory is the first one
abbrev pub IsFault : List ℕ → Fault AigKind → Type 0
IsFault bytes (faults.At at kind) = IsFirstFault bytes at kind
IsFault bytes faults.OutOfMemory = Unit {0}

-- a call answers so, unless memory runs out
abbrev pub Answers : Result Parts (Fault AigKind) → Result Parts (Fault AigKind) → Type 0
Answers result answer = exactly.Answers faults.OutOfMemory result answer
