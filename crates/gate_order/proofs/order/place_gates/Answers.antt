use Rattle.gate_order.proofs.Uses.{uses_within}
use Rattle.gate_order.proofs.order.place_gates.Goals as goal

pub new-requires-clause-within : goal.new-requires-clause-within
new-requires-clause-within c = uses_within _ c.args.sorted.now _ c.in_ok-left.ensures

pub new-requires-2-clause-within : goal.new-requires-2-clause-within
new-requires-2-clause-within c = uses_within _ c.args.sorted.now _ c.in_ok-right.ensures
