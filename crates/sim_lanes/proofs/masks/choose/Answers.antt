use Rattle.std.proofs.Common.{◌<◌, ◌^◌, arith}
use Rattle.sim_lanes.proofs.WordBits.{bit-chosen}
use Rattle.sim_lanes.proofs.masks.choose.Goals as goal

pub returns : goal.returns
returns c = λ j low. (let fits : c.args.mask < 2 ^ 64 = omega arith in bit-chosen j c.args.mask c.args.on c.args.off fits low)
