use Rattle.std.proofs.Common.{rules}
use Rattle.std.specs.List.Sorted.{IsPermutation}
use Rattle.std.proofs.lemmas.List.Sorted.{IsNonDecreasingBy-from_sort_by_key}
use Rattle.aig_model.specs.declared.parts.AndGate.{AndGate}
use Rattle.gate_order.specs.SortedGates.{AreSorted}
use Rattle.gate_order.proofs.Gates.{apart_again, sorted_from_sides, few_gates}
use Rattle.gate_order.proofs.order.sorted.sorted_gates.Goals as goal

sorted_items : (c : goal.After-last_side-last) → AreSorted c.sort_unstable_by_key.new.self.items
sorted_items c =
    let same : IsPermutation c.args.gates.now c.sort_unstable_by_key.new.self.items =
    rw (← c.in_ok-sorted.ensures.items) c.sort_unstable_by_key.ensures.permutation
    in
    sorted_from_sides _ (apart_again _ _ same c.requires)
    (IsNonDecreasingBy-from_sort_by_key (λ (g : AndGate). g.lhs) _ c.sort_unstable_by_key.ensures.sorted (λ a r q k. search rules))

pub returns-clause-sorted : goal.returns-clause-sorted
returns-clause-sorted c = sorted_items c

pub returns-clause-few : goal.returns-clause-few
returns-clause-few c = few_gates _ (sorted_items c) c.last_side-last.result (rw (← c.as_slice.ensures.value) c.last_side-last.ensures)
