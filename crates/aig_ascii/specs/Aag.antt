-- The ASCII format of circuits (AIGER 1.9): which texts spell a circuit, and what the first fault of any other text is.
use Rattle.std.specs.Prelude.{◌≡◌, ℕ, ◌⊎◌, Result, List, [], ◌++◌, map, Contains}
use Rattle.ketch_base.specs.Exactly as exactly
use Rattle.aig_model.specs.WellFormed.{definers}
use Rattle.aig_model.specs.declared.parts.AndGate.{AndGate}
use Rattle.aig_model.specs.declared.parts.Parts.{Parts}
use Rattle.gate_order.specs.GateOrder.{IsGateOrder, IsCycle}
use Rattle.text_words.specs.Text.{Rest, whole, next_line, lines_of, after_lines, all_lines}
use Rattle.aig_ascii.specs.Demands.{Demand, AllMet, IsFirstUnmet}
use Rattle.aig_ascii.specs.Header.{sizes_of, header_demands}
use Rattle.aig_ascii.specs.declared.header.Format.TheVariants.{Ascii}
use Rattle.aig_ascii.specs.declared.header.Sizes.{Sizes}
use Rattle.aig_ascii.specs.Sections.{input, latch, plain, gate, number_at, section_demands, section_uses, use_demands, lits_of, latch_of, gate_of}
use Rattle.aig_ascii.specs.Symbols.{symbol_lines, symbol_demands, symbols_of}
use Rattle.aig_ascii.specs.declared.fault.AagKind.{AagKind}
use Rattle.aig_ascii.specs.declared.fault.AagKind.TheVariants.{Cycle}
use Rattle.aig_ascii.specs.declared.fault.Fault.{Fault}
use Rattle.aig_ascii.specs.declared.fault.Fault.TheVariants as faults
use Rattle.aig_ascii.specs.Kinds.{aag_kind}

-- ---- where the sections begin, and how many lines each has

pub record Layout : Type 0 where
  pub sizes : Sizes
  pub inputs : Rest
  pub latches : Rest
  pub outputs : Rest
  pub bads : Rest
  pub constraints : Rest
  pub gates : Rest
  pub symbols : Rest

abbrev pub layout_from : Sizes → Rest → Layout
layout_from s r =
    let latches = after_lines s.inputs r in
    let outputs = after_lines s.latches latches in
    let bads = after_lines s.outputs outputs in
    let constraints = after_lines s.bads bads in
    let gates = after_lines s.constraints constraints in
    record {
      sizes = s;
      inputs = r;
      latches = latches;
      outputs = outputs;
      bads = bads;
      constraints = constraints;
      gates = gates;
      symbols = after_lines s.gates gates;
    }

abbrev pub layout_of : List ℕ → Layout
layout_of text = layout_from (sizes_of (whole text)) (next_line (whole text))

-- ---- what the sections spell, with the gates as they stand

abbrev pub parts_in : Layout → Parts
parts_in l = record {
  top = l.sizes.top;
  inputs = lits_of l.sizes.inputs l.inputs;
  latches = map latch_of (lines_of l.sizes.latches l.latches);
  outputs = lits_of l.sizes.outputs l.outputs;
  bads = lits_of l.sizes.bads l.bads;
  constraints = lits_of l.sizes.constraints l.constraints;
  gates = map gate_of (lines_of l.sizes.gates l.gates);
  names = symbols_of (symbol_lines (all_lines l.symbols));
}

-- the fields of the literals that are used, in the order of the text
abbrev pub uses_in : Layout → List Rest
uses_in l =
    section_uses latch l.sizes.latches l.latches
    ++ (section_uses plain l.sizes.outputs l.outputs
    ++ (section_uses plain l.sizes.bads l.bads
    ++ (section_uses plain l.sizes.constraints l.constraints
    ++ section_uses gate l.sizes.gates l.gates)))

-- ---- what is asked

-- the lines of the sections, each literal defined once
abbrev pub body_demands : Layout → List (Demand AagKind)
body_demands l =
    let top = l.sizes.top in
    let inputs = lits_of l.sizes.inputs l.inputs in
    let both = inputs ++ lits_of l.sizes.latches l.latches in
    section_demands input l.sizes.inputs top [] l.inputs
    ++ (section_demands latch l.sizes.latches top inputs l.latches
    ++ (section_demands plain l.sizes.outputs top both l.outputs
    ++ (section_demands plain l.sizes.bads top both l.bads
    ++ (section_demands plain l.sizes.constraints top both l.constraints
    ++ section_demands gate l.sizes.gates top both l.gates))))

-- the header, the sections, the symbols, and then that each used variable is defined somewhere
abbrev pub demands : List ℕ → List (Demand AagKind)
demands text =
    let l = layout_of text in
    header_demands aag_kind Ascii (whole text)
    ++ (body_demands l
    ++ (symbol_demands aag_kind l.sizes [] (symbol_lines (all_lines l.symbols))
    ++ use_demands (definers (parts_in l)) (uses_in l)))

-- ---- the circuit of a text, and its first fault

-- all demands are met, and the circuit is what the sections spell, with the gates in order
pub record SpellsCircuit (text : List ℕ) (c : Parts) : Type 0 where
  pub right : AllMet (demands text)
  pub gates : List AndGate
  pub ordered : IsGateOrder (parts_in (layout_of text)).gates gates
  pub parts : c ≡ record (parts_in (layout_of text)) { gates = gates }

-- all demands are met, and gates depend on themselves: seen at the line of the left side that names them
pub record HasCycle (text : List ℕ) (at : ℕ) : Type 0 where
  pub right : AllMet (demands text)
  pub lhs : ℕ
  pub cycle : IsCycle (parts_in (layout_of text)).gates lhs
  pub line : Rest
  pub stands : Contains (lines_of (layout_of text).sizes.gates (layout_of text).gates) line
  pub defines : number_at line 0 ≡ lhs
  pub place : at ≡ line.at

-- the first fault of a text has this kind, and is seen at this place
abbrev pub IsFirstFault : List ℕ → ℕ → AagKind → Type 0
IsFirstFault text at kind = IsFirstUnmet (demands text) at kind ⊎ ((kind ≡ Cycle) × HasCycle text at)

-- ---- what a call answers

-- a fault other than out of memory is the first one
abbrev pub IsFault : List ℕ → Fault AagKind → Type 0
IsFault text (faults.At at kind) = IsFirstFault text at kind
IsFault text faults.OutOfMemory = Unit {0}

-- a call answers so, unless memory runs out
abbrev pub Answers : Result Parts (Fault AagKind) → Result Parts (Fault AagKind) → Type 0
Answers result answer = exactly.Answers faults.OutOfMemory result answer
