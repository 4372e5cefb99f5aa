use Rattle.gate_order.specs.SortedGates.{AreUses}
use Rattle.gate_order.proofs.order.sorted.list_uses.Given as goal

abbrev pub invariant-loop-gate : goal.invariant-loop-gate
invariant-loop-gate l = AreUses l.side l.sorted l.gate-index l.uses.items
