use Rattle.gate_order.proofs.OrderedGates.{ordered_parts}
use Rattle.gate_order.proofs.Standing.{own_order}
use Rattle.aig_ascii.proofs.reading.standing.Goals as goal

pub new-requires : goal.new-requires
new-requires c = ordered_parts c.args.parts c.args.parts.gates c.requires.unordered (own_order c.args.parts.gates c.requires.stand)
