-- What is read of the sections.
use Rattle.std.specs.Prelude.{◌≡◌, ℕ, ◌+◌, ◌^◌, ◌<◌, ◌≤◌, List, [], ◌++◌, length, drop}
use Rattle.text_words.specs.Text.{Rest, all_lines}
use Rattle.aig_ascii.specs.Demands.{Demand}
use Rattle.aig_ascii.specs.Sections.{lits_of}
use Rattle.aig_ascii.specs.Symbols.{symbol_lines, symbol_demands}
use Rattle.aig_ascii.specs.declared.fault.Fault.{Fault}
use Rattle.aig_ascii.specs.declared.fault.Fault.TheVariants as faults
use Rattle.aig_binary.specs.Kinds.{aig_kind}
use Rattle.aig_binary.specs.Sections.{latches_of, gates_demands}
use Rattle.aig_binary.specs.Aig.{Layout, first_latch, first_gate, line_section_demands}
use Rattle.aig_binary.specs.declared.fault.AigKind.{AigKind}
use Rattle.aig_binary.specs.declared.reading.Lines.{Lines}

-- what a file has from a place on
pub record IsRestOf (file : List ℕ) (r : Rest) : Type 0 where
  pub within : r.at ≤ length file
  pub bytes : r.bytes ≡ drop r.at file

-- the lists are what the lines spell
pub record AreLines (l : Layout) (s : Lines) : Type 0 where
  pub latches : s.latches ≡ latches_of (first_latch l.sizes) l.sizes.latches l.latches
  pub outputs : s.outputs ≡ lits_of l.sizes.outputs l.outputs
  pub bads : s.bads ≡ lits_of l.sizes.bads l.bads
  pub constraints : s.constraints ≡ lits_of l.sizes.constraints l.constraints

-- what is asked of what follows the lines, and the header
abbrev pub behind_lines : Layout → List (Demand AigKind)
behind_lines l =
    gates_demands (first_gate l.sizes) l.sizes.gates l.gates ++ symbol_demands aig_kind l.sizes [] (symbol_lines (all_lines l.symbols))

abbrev pub behind_header : Layout → List (Demand AigKind)
behind_header l = line_section_demands l ++ behind_lines l

-- a fault of what stands so far behind the beginning
abbrev pub moved : ℕ → Fault AigKind → Fault AigKind
moved by (faults.At at kind) = faults.At (by + at) kind
moved by faults.OutOfMemory = faults.OutOfMemory

-- its place is a number of 64 bits
abbrev pub CanMove : ℕ → Fault AigKind → Type 0
CanMove by (faults.At at kind) = by + at < 2 ^ 64
CanMove by faults.OutOfMemory = Unit {0}
