use Rattle.std.specs.List.Sorted.{IsPermutation}
use Rattle.gate_order.proofs.Answered.{order_of_sorted, fault_of_sorted}
use Rattle.gate_order.proofs.order.order_unsorted.Goals as goal

sorted_same : (c : goal.After-drop-sorted) → IsPermutation c.args.gates.now c.as_slice.result.now
sorted_same c = rw c.as_slice.ensures.value c.in_ok-sorted.ensures.same

pub returns-clause-order : goal.returns-clause-order
returns-clause-order c = order_of_sorted _ _ (sorted_same c) _ c.order_sorted.ensures.order

pub returns-clause-cycle : goal.returns-clause-cycle
returns-clause-cycle c = fault_of_sorted _ _ (sorted_same c) _ c.order_sorted.ensures.cycle
