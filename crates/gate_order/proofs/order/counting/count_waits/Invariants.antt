use Rattle.std.proofs.Common.{◌≡◌, ◌<◌, ℕ, [], length, get_or}
use Rattle.gate_order.specs.PlaceOrder.{waits_of}
use Rattle.gate_order.proofs.order.counting.count_waits.Given as goal

abbrev pub invariant-loop-place : goal.invariant-loop-place
invariant-loop-place l = record {
  size : length l.waits.items ≡ l.place;
  counts : (k : ℕ) → k < l.place → get_or l.waits.items k 0 ≡ waits_of l.left l.right [] k;
}
