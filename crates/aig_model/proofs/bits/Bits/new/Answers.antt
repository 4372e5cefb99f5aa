use Rattle.std.proofs.Common.{refl}
use Rattle.aig_model.specs.Packed.{unpacked}
use Rattle.aig_model.proofs.bits.Bits.new.Goals as goal

pub returns : goal.returns
unfolding unpacked
returns c = refl
