use Rattle.std.proofs.Common.{◌≡◌, ◌<◌, ℕ, inl, inr, List, length, get_or, sym, ap, ◌∙◌, subst, arith}
use Rattle.std.proofs.lemmas.Bool.{cases_eq}
use Rattle.std.proofs.lemmas.List.{get_or_default}
use Rattle.aig_model.specs.declared.parts.AndGate.{AndGate}
use Rattle.gate_order.specs.GateOrder.{IsGateOrder, IsCycle}
use Rattle.gate_order.specs.SortedGates.{gates_at, no_gate}
use Rattle.gate_order.proofs.PlacedGates.{gate_order, is_cycle}
use Rattle.gate_order.proofs.order.order_sorted.Goals as goal

pub returns-in-None-clause-order : goal.returns-in-None-clause-order
returns-in-None-clause-order c =
    let is = c.in_ok-placed.ensures in
    let sorted = c.args.sorted.now in
    let waits = c.as_slice.ensures.value in
    let none =
    λ (p : ℕ) (h : p < length sorted). sym (ap (λ (l : List ℕ). get_or l p 0) waits) ∙ c.in-None.ensures p 0 (omega (arith, h, is.size, ap length waits))
    in
    let ordered = gate_order sorted c.requires.sorted is.left is.right is.left_uses is.right_uses _ _ is.size is.placing none in
    subst (IsGateOrder sorted) (sym (c.in_ok-ordered-in-None.ensures ∙ ap (gates_at sorted) c.as_slice-in-None.ensures.value)) ordered

pub returns-clause-cycle : goal.returns-clause-cycle
returns-clause-cycle c =
    let is = c.in_ok-placed.ensures in
    let sorted = c.args.sorted.now in
    let place = c.in-Some.place in
    let waits = c.as_slice.ensures.value in
    let inside : place < length sorted = omega (arith, c.in-Some.ensures.here.0, is.size, ap length waits) in
    let some : 0 < get_or c.in_ok-placed.placed.waits.items place 0 = subst (λ (l : List ℕ). 0 < get_or l place 0) waits c.in-Some.ensures.here.1 in
    let first : (q : ℕ) → q < place → get_or c.in_ok-placed.placed.waits.items q 0 ≡ 0 =
    λ q h.
    elim (cases_eq (get_or c.in_ok-placed.placed.waits.items q 0) 0) [
      | inl none ↦ none
      | inr waiting ↦
          let more : 0 < get_or c.in_ok-placed.placed.waits.items q 0 = omega (arith, waiting) in
          absurd (c.in-Some.ensures.before q h (omega (arith, h, inside, is.size, ap length waits), subst (λ (l : List ℕ). 0 < get_or l q 0) (sym waits) more))
    ]
    in
    let cycle = is_cycle sorted c.requires.sorted is.left is.right is.left_uses is.right_uses _ _ is.size is.placing place inside some first in
    subst (λ (g : AndGate). IsCycle sorted g.lhs) (get_or_default sorted place no_gate c.index-sorted-place.result inside) cycle
