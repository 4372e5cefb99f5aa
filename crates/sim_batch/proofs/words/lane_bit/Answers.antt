use Rattle.std.proofs.Common.{nat_eq, ap}
use Rattle.std.proofs.lemmas.Nat.Bits.{shr_and_one}
use Rattle.sim_batch.proofs.words.lane_bit.Goals as goal

pub returns : goal.returns
returns c = ap (λ x. nat_eq x 1) (shr_and_one c.args.word c.args.lane)
