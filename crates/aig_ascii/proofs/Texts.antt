-- Each text spells a circuit that is well formed, or it has a first fault.
use Rattle.std.proofs.Common.{◌≡◌, ℕ, ◌+◌, None, Some, List, refl, sym, ◌∙◌, subst, inl, inr, ◌⊎◌, arith}
use Rattle.std.proofs.lemmas.List.{get_or_default, length-map}
use Rattle.aig_model.specs.WellFormed.{left_sides, IsCircuit}
use Rattle.aig_model.specs.declared.parts.AndGate.{AndGate}
use Rattle.aig_model.specs.declared.parts.Parts.{Parts}
use Rattle.gate_order.specs.OrderLaws.{HaveCycle}
use Rattle.gate_order.proofs.OrderExists.{some_order_or_cycle}
use Rattle.gate_order.proofs.OrderedGates.{ordered_parts}
use Rattle.text_words.specs.Text.{after_lines, whole}
use Rattle.aig_ascii.specs.Header.{AreFew, header_demands}
use Rattle.aig_ascii.specs.Kinds.{aag_kind}
use Rattle.aig_ascii.specs.Aag.{layout_of, parts_in, demands, SpellsCircuit, IsFirstFault}
use Rattle.aig_ascii.specs.ReadSections.{behind_header, lines_before, IsGatePlace}
use Rattle.aig_ascii.specs.FirstFaults.{first_unmet}
use Rattle.aig_ascii.specs.declared.header.Format.TheVariants.{Ascii}
use Rattle.aig_ascii.specs.declared.fault.AagKind.{AagKind}
use Rattle.aig_ascii.specs.declared.fault.AagKind.TheVariants.{Cycle}
use Rattle.aig_ascii.proofs.FirstFaults.{Unmet, met-front, none-unmet, is-first}
use Rattle.aig_ascii.proofs.HeaderLimits.{header-few}
use Rattle.aig_ascii.proofs.RightParts.{text-apart, text-unordered}
use Rattle.aig_ascii.proofs.CircuitsAndFaults.{circuit-spelled, cycle-side, cycle-fault}

text-few : (text : List ℕ) → first_unmet (demands text) ≡ None → AreFew (layout_of text).sizes
text-few text m = header-few aag_kind Ascii (whole text) (met-front (header_demands aag_kind Ascii (whole text)) (behind_header (layout_of text)) m)

-- ---- what is spelled is well formed

pub is-circuit : (text : List ℕ) (c : Parts) → SpellsCircuit text c → IsCircuit c
is-circuit text c s =
    let met = none-unmet (demands text) s.right in
    let unordered = text-unordered text (text-few text met) met in
    subst IsCircuit (sym s.parts) (ordered_parts (parts_in (layout_of text)) s.gates unordered s.ordered)

-- ---- a circuit or a fault

abbrev Way : List ℕ → Type 0
Way text = ((c : Parts) × SpellsCircuit text c) ⊎ ((at : ℕ) × (kind : AagKind) × IsFirstFault text at kind)

with-cycle : (text : List ℕ) → first_unmet (demands text) ≡ None → HaveCycle (parts_in (layout_of text)).gates → Way text
with-cycle text met found =
    let c = parts_in (layout_of text) in
    let side = cycle-side c.gates found.lhs found.cycle in
    let at = (after_lines (lines_before c + side.0) (whole text)).at in
    let place : IsGatePlace text c found.lhs at = record {
      index = side.0;
      within = omega (arith, side.1, length-map c.gates (λ (g : AndGate). g.lhs));
      side = get_or_default (left_sides c.gates) side.0 0 found.lhs side.1 ∙ side.2;
      place = refl;
    } in
    inr (at, Cycle, inr (refl, cycle-fault text found.lhs at met found.cycle place))

right-text : (text : List ℕ) → first_unmet (demands text) ≡ None → Way text
right-text text met =
    let c = parts_in (layout_of text) in
    elim (some_order_or_cycle c.gates (text-apart text met)) as (λ _. Way text) [
      | inl found ↦ inl (record c { gates = found.ordered }, circuit-spelled text found.ordered (record c { gates = found.ordered }) met found.order refl)
      | inr found ↦ with-cycle text met found
    ]

pub some-reading : (text : List ℕ) → Way text
some-reading text = step (first_unmet (demands text)) refl
  where
    step : (o : Unmet AagKind) → first_unmet (demands text) ≡ o → Way text
    step None e = right-text text e
    step (Some x) e = inr (x.0, x.1, inl (is-first (demands text) x.0 x.1 e))
