use Rattle.sim_lanes.proofs.WordBits.{bit-and}
use Rattle.sim_lanes.proofs.values.both.Goals as goal

pub returns : goal.returns
returns c = λ j low. bit-and j c.args.left c.args.right
