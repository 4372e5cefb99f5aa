use Rattle.std.proofs.Common.{refl}
use Rattle.sim_lanes.proofs.values.conjunction.Goals as goal

pub returns : goal.returns
returns c = λ j low. rw (c.both.ensures j low, c.value-left.ensures j low, c.value-right.ensures j low) refl
