use Rattle.std.proofs.Common.{◌≡◌, take}
use Rattle.gate_order.specs.SortedGates.{gates_at}
use Rattle.gate_order.proofs.order.list_gates.Given as goal

abbrev pub invariant-loop-place : goal.invariant-loop-place
invariant-loop-place l = l.listed.items ≡ gates_at l.gates (take l.place-index l.places)
