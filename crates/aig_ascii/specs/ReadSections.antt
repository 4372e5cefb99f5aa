-- What is read of the sections.
use Rattle.std.specs.Prelude.{◌≡◌, ◌+◌, ◌<◌, ℕ, List, [], ◌++◌, map, length, get_or}
use Rattle.aig_model.specs.WellFormed.{definers, left_sides}
use Rattle.aig_model.specs.declared.parts.Parts.{Parts}
use Rattle.text_words.specs.Text.{lines_of, after_lines, all_lines, whole}
use Rattle.aig_ascii.specs.Demands.{Demand}
use Rattle.aig_ascii.specs.Sections.{lits_of, latch_of, gate_of, use_demands}
use Rattle.aig_ascii.specs.Symbols.{symbol_lines, symbol_demands}
use Rattle.aig_ascii.specs.Drafts.{definers_of, use_of, StandFor}
use Rattle.aig_ascii.specs.Aag.{Layout, parts_in, uses_in, body_demands}
use Rattle.aig_ascii.specs.declared.reading.Sections.{Sections}
use Rattle.gate_order.specs.declared.order.fault.OrderFault.{OrderFault}
use Rattle.gate_order.specs.declared.order.fault.OrderFault.TheVariants as orders
use Rattle.aig_ascii.specs.declared.fault.Fault.{Fault}
use Rattle.aig_ascii.specs.declared.fault.Fault.TheVariants as faults
use Rattle.aig_ascii.specs.Kinds.{aag_kind}
use Rattle.aig_ascii.specs.declared.fault.AagKind.{AagKind}
use Rattle.aig_ascii.specs.declared.fault.AagKind.TheVariants.{Cycle}

-- the lists are what the sections spell, and the pending uses stand for all of theirs
pub record IsSections (l : Layout) (s : Sections) : Type 0 where
  pub top : s.draft.top ≡ l.sizes.top
  pub inputs : s.draft.inputs ≡ lits_of l.sizes.inputs l.inputs
  pub latches : s.draft.latches ≡ map latch_of (lines_of l.sizes.latches l.latches)
  pub outputs : s.outputs ≡ lits_of l.sizes.outputs l.outputs
  pub bads : s.bads ≡ lits_of l.sizes.bads l.bads
  pub constraints : s.constraints ≡ lits_of l.sizes.constraints l.constraints
  pub gates : s.draft.gates ≡ map gate_of (lines_of l.sizes.gates l.gates)
  pub uses : StandFor (definers_of s.draft) s.draft.pending (map use_of (uses_in l))

-- what is asked of the lines behind the header
abbrev pub behind_header : Layout → List (Demand AagKind)
behind_header l =
    body_demands l ++ (symbol_demands aag_kind l.sizes [] (symbol_lines (all_lines l.symbols)) ++ use_demands (definers (parts_in l)) (uses_in l))

-- how many lines stand before the gates
abbrev pub lines_before : Parts → ℕ
lines_before c = 1 + length c.inputs + length c.latches + length c.outputs + length c.bads + length c.constraints

-- the place of the line of a gate with this left side
pub record IsGatePlace (text : List ℕ) (c : Parts) (lhs at : ℕ) : Type 0 where
  pub index : ℕ
  pub within : index < length c.gates
  pub side : get_or (left_sides c.gates) index 0 ≡ lhs
  pub place : at ≡ (after_lines (lines_before c + index) (whole text)).at

-- the fault that is answered where the gates have none of an order
abbrev pub IsOrderFault : List ℕ → Parts → OrderFault → Fault AagKind → Type 0
IsOrderFault text c (orders.Cycle lhs) fault = (at : ℕ) × (fault ≡ faults.At at Cycle) × IsGatePlace text c lhs at
IsOrderFault text c orders.OutOfMemory fault = fault ≡ faults.OutOfMemory
