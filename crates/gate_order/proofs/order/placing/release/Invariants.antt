use Rattle.std.proofs.Common.{◌≡◌, ◌+◌, ◌-◌, ◌<◌, ◌≤◌, length, get_or}
use Rattle.gate_order.specs.PlaceOrder.{is_user_from, Releases}
use Rattle.gate_order.proofs.order.placing.release.Given as goal

abbrev pub invariant-loop-last : goal.invariant-loop-last
invariant-loop-last l = record {
  within : l.last ≤ length l.users;
  user : 0 < l.last → get_or l.users (l.last - 1) 0 ≡ l.place + 1;
  released : Releases (is_user_from l.last l.users l.place) l.initial.waits l.initial.queue l.waits l.queue;
}

abbrev pub decreases-loop-last : goal.decreases-loop-last
decreases-loop-last l = l.last
