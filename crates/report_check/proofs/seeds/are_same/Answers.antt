use Rattle.std.proofs.Common.{false, refl, arith}
use Rattle.std.proofs.lemmas.List.{ext_get_or}
use Rattle.report_check.proofs.seeds.are_same.Goals as goal

pub returns : goal.returns
returns c = (
  λ _. ext_get_or false c.args.left.now c.args.right.now c.requires (λ i inside. c.loop-place.invariant i (omega (arith, inside))),
  λ _. refl,
)
