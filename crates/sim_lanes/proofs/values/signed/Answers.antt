use Rattle.std.proofs.Common.{◌<◌, ◌^◌, refl, arith}
use Rattle.sim_lanes.proofs.WordBits.{bit-not}
use Rattle.sim_lanes.proofs.values.signed.Goals as goal

pub returns-then-negated : goal.returns-then-negated
returns-then-negated c = λ j low. (let fits : c.args.word < 2 ^ 64 = omega arith in rw c.if-negated.true (bit-not j c.args.word fits low))

pub returns-else-negated : goal.returns-else-negated
returns-else-negated c = λ j low. rw c.if-negated.false refl
