use Rattle.gate_order.proofs.OrderedGates.{ordered_parts}
use Rattle.aig_ascii.proofs.reading.ordered.Goals as goal

pub new-requires : goal.new-requires
new-requires c = ordered_parts c.args.parts c.args.gates c.requires.unordered c.requires.order
