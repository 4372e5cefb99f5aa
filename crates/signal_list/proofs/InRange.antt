-- The literals that a text spells are literals of the circuit.
use Rattle.std.proofs.Common.{◌≡◌, ℕ, ◌<◌, inl, inr, Some, List, [], ◌∷◌, ◌++◌, length, slice_get, sym, ap, ◌∙◌, subst, arith, All}
use Rattle.std.specs.List.{AllZip}
use Rattle.std.specs.Option.{option_map}
use Rattle.std.proofs.lemmas.List.Elements.{All-cons, All-nil}
use Rattle.std.proofs.lemmas.List.{length-map}
use Rattle.std.proofs.lemmas.Option.{slice_get_within, get_or_from_slice_get, slice_get_cases, slice_get-map}
use Rattle.text_words.specs.Lines.{lines}
use Rattle.aig_model.specs.declared.parts.Latch.{Latch}
use Rattle.aig_model.specs.declared.parts.Parts.{Parts}
use Rattle.aig_model.specs.declared.parts.Place.{Place}
use Rattle.aig_model.specs.declared.parts.Place.TheVariants as places
use Rattle.aig_model.specs.SignalList.{IsSignals}
use Rattle.aig_model.specs.WellFormed.{latch_lits, latch_literals, gate_literals, IsInRange, IsCircuit}
use Rattle.aig_model.proofs.Elements.{All-left, All-right, All-flat_map_item}
use Rattle.signal_list.specs.SignalText.{Reference, place, literal, name, signal_lines, literal_at, StandsFor, SpellsSignal, SpellsSignals}
use Rattle.signal_list.proofs.Forms.{some-some}

at-place : (P : ℕ → Type 0) (xs : List ℕ) (k x : ℕ) → All P xs → slice_get xs k ≡ Some x → P x
at-place P xs k x all e = subst P (get_or_from_slice_get xs k x x e) (all k x (slice_get_within xs k x e))

of-latch : (P : ℕ → Type 0) (latches : List Latch) (k x : ℕ) → All P (latch_literals latches) → slice_get (latch_lits latches) k ≡ Some x → P x
of-latch P latches k x all e =
    let within : k < length latches = let w = slice_get_within (latch_lits latches) k x e in omega (arith, length-map {A = Latch} latches (λ l. l.lit)) in
    elim (slice_get_cases latches k).1 as (λ _. P x) [
      | inl l ↦
          let same : l.0.lit ≡ x = some-some l.0.lit x (sym (slice_get-map (λ (m : Latch). m.lit) latches k ∙ ap (option_map (λ (m : Latch). m.lit)) l.2) ∙ e) in
          let own = All-flat_map_item (λ (m : Latch). m.lit ∷ m.next ∷ []) P latches k l.0 l.1 (sym l.3) all in
          subst P same (own 0 x (omega arith))
      | inr past ↦ absurd (omega (arith, past.0))
    ]

literal_at-in-range : (c : Parts) (p : Place) (lit : ℕ) → IsCircuit c → literal_at c p ≡ Some lit → IsInRange c.top lit
literal_at-in-range c p lit well = at p
  where
    after_inputs : All (IsInRange c.top) (latch_literals c.latches ++ (c.outputs ++ (c.bads ++ (c.constraints ++ gate_literals c.gates))))
    after_inputs = All-right (IsInRange c.top) c.inputs _ well.in_range

    after_latches : All (IsInRange c.top) (c.outputs ++ (c.bads ++ (c.constraints ++ gate_literals c.gates)))
    after_latches = All-right (IsInRange c.top) (latch_literals c.latches) _ after_inputs

    after_outputs : All (IsInRange c.top) (c.bads ++ (c.constraints ++ gate_literals c.gates))
    after_outputs = All-right (IsInRange c.top) c.outputs _ after_latches

    after_bads : All (IsInRange c.top) (c.constraints ++ gate_literals c.gates)
    after_bads = All-right (IsInRange c.top) c.bads _ after_outputs

    at : (p : Place) → literal_at c p ≡ Some lit → IsInRange c.top lit
    at (places.Input k) e = at-place (IsInRange c.top) c.inputs k lit (All-left (IsInRange c.top) c.inputs _ well.in_range) e
    at (places.Latch k) e = of-latch (IsInRange c.top) c.latches k lit (All-left (IsInRange c.top) (latch_literals c.latches) _ after_inputs) e
    at (places.Output k) e = at-place (IsInRange c.top) c.outputs k lit (All-left (IsInRange c.top) c.outputs _ after_latches) e
    at (places.Bad k) e = at-place (IsInRange c.top) c.bads k lit (All-left (IsInRange c.top) c.bads _ after_outputs) e
    at (places.Constraint k) e = at-place (IsInRange c.top) c.constraints k lit (All-left (IsInRange c.top) c.constraints _ after_bads) e

stands-in-range : (c : Parts) (r : Reference) (lit : ℕ) → IsCircuit c → StandsFor c r lit → IsInRange c.top lit
stands-in-range c (place p) lit well s = literal_at-in-range c p lit well s
stands-in-range c (literal n) lit well s = subst (IsInRange c.top) (sym s.1) s.0
stands-in-range c (name bytes) lit well s = literal_at-in-range c s.0 lit well s.2

each-in-range : (c : Parts) (ls : List (List ℕ)) (lits : List ℕ) → IsCircuit c → AllZip (SpellsSignal c) ls lits → All (IsInRange c.top) lits
each-in-range c [] [] well each = All-nil (IsInRange c.top)
each-in-range c [] (x ∷ lits) well each = absurd each
each-in-range c (l ∷ ls) [] well each = absurd each
each-in-range c (l ∷ ls) (x ∷ lits) well each = All-cons (IsInRange c.top) x lits (stands-in-range c each.0.0 x well each.0.2) (each-in-range c ls lits well each.1)

pub are-signals : (c : Parts) (text lits : List ℕ) → IsCircuit c → SpellsSignals c text lits → IsSignals c lits
are-signals c text lits well s = record {
  some = s.some;
  few = s.spelled.few;
  in_range = each-in-range c (signal_lines (lines text)) lits well s.spelled.each;
  once = s.spelled.once;
}
