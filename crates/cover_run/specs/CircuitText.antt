-- The text of a circuit, in either of AIGER's formats: one that begins with `aig ` is binary, and any other is ASCII.
use Rattle.std.specs.Prelude.{ℕ, Bool, true, false, List, codes, nat_eq}
use Rattle.std.specs.List.{starts_with}
use Rattle.aig_model.specs.declared.parts.Parts.{Parts}
use Rattle.aig_ascii.specs.Aag as aag
use Rattle.aig_binary.specs.Aig as aig
use Rattle.command_words.specs.declared.stop.CircuitKind.{CircuitKind}
use Rattle.command_words.specs.declared.stop.CircuitKind.TheVariants as kinds

abbrev pub is_binary : List ℕ → Bool
is_binary t = starts_with nat_eq t (codes "aig ")

-- the text spells the circuit in this format: in the binary one, or else in the ASCII one
abbrev pub SpellsIn : Bool → List ℕ → Parts → Type 0
SpellsIn true t c = aig.SpellsCircuit t c
SpellsIn false t c = aag.SpellsCircuit t c

-- what is wrong first in this format
abbrev pub IsFirstFaultIn : Bool → List ℕ → ℕ → CircuitKind → Type 0
IsFirstFaultIn true t at (kinds.Binary kind) = aig.IsFirstFault t at kind
IsFirstFaultIn false t at (kinds.Ascii kind) = aag.IsFirstFault t at kind
IsFirstFaultIn binary t at kind = ⊥

-- the text spells the circuit, or this is its first fault, in the format that it begins with
abbrev pub SpellsCircuit : List ℕ → Parts → Type 0
SpellsCircuit t c = SpellsIn (is_binary t) t c

abbrev pub IsFirstFault : List ℕ → ℕ → CircuitKind → Type 0
IsFirstFault t at kind = IsFirstFaultIn (is_binary t) t at kind
