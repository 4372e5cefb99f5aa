use Rattle.std.proofs.Common.{List, ℤ, subst}
use Rattle.std.proofs.lemmas.List.{take_all}
use Rattle.sat_learn.specs.Tracking.{IsGreatestLevel}
use Rattle.sat_learn.proofs.MarkedLiterals.{has_at}
use Rattle.sat_learn.proofs.LearnedLiterals.{greatest_none, greatest_more}
use Rattle.sat_learn.proofs.conclusion.greatest_level.Goals as goal

pub loop-lit-init : goal.loop-lit-init
loop-lit-init c = greatest_none c.args.trail.now

pub level_of_false-requires-clause-false_now : goal.level_of_false-requires-clause-false_now
level_of_false-requires-clause-false_now c = c.requires.false_now c.lit-item.result (has_at c.args.kept.now c.loop-lit.lit-index c.lit-item.result c.lit-item.result c.loop-lit-test.true c.lit-item.is)

pub loop-lit-preserved : goal.loop-lit-preserved
loop-lit-preserved c = greatest_more c.args.trail.now c.args.kept.now c.loop-lit.lit-index c.lit-item.result c.loop-lit.greatest c.level_of_false.result c.max-greatest.result c.loop-lit-test.true c.lit-item.is c.loop-lit.invariant c.level_of_false.ensures c.max-greatest.ensures

pub returns : goal.returns
returns c =
    let P : List ℤ → Type 0 = λ ls. IsGreatestLevel c.args.trail.now ls c.loop-lit.greatest in
    subst P (take_all c.loop-lit.lit-index c.args.kept.now c.loop-lit-test.false) c.loop-lit.invariant
