use Rattle.std.proofs.Common.{sym, ◌∙◌}
use Rattle.sim_lanes.proofs.WordBits.{bit-every, bit-none}
use Rattle.sim_lanes.proofs.start.every_lane.Goals as goal

pub returns-then-bit : goal.returns-then-bit
returns-then-bit c = λ j low. bit-every j low ∙ sym c.if-bit.true

pub returns-else-bit : goal.returns-else-bit
returns-else-bit c = λ j low. bit-none j ∙ sym c.if-bit.false
