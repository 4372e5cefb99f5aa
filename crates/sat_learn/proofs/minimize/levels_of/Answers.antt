use Rattle.sat_learn.proofs.MarkedLiterals.{has_at}
use Rattle.sat_learn.proofs.minimize.levels_of.Goals as goal

pub level_of_false-requires-clause-false_now : goal.level_of_false-requires-clause-false_now
level_of_false-requires-clause-false_now c = c.requires.false_now c.lit-item.result (has_at c.args.kept.now c.loop-lit.lit-index c.lit-item.result c.lit-item.result c.loop-lit-test.true c.lit-item.is)
