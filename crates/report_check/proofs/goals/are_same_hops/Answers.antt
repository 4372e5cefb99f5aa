use Rattle.std.proofs.Common.{refl, arith}
use Rattle.std.proofs.lemmas.List.{ext_get_or}
use Rattle.report_text.specs.declared.report.HopBound.TheVariants as hop_bounds
use Rattle.report_check.proofs.goals.are_same_hops.Goals as goal

pub returns : goal.returns
returns c = (
  λ _. ext_get_or hop_bounds.NoSeed c.args.left.now c.args.right.now c.if-left-right.false (λ i inside. c.loop-place.invariant i (omega (arith, inside, c.loop-place-test.false))),
  λ _. refl,
)
