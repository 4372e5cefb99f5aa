use Rattle.sat_trail.specs.Trail.{lits}
use Rattle.sat_learn.proofs.MarkedLiterals.{has_at}
use Rattle.sat_learn.proofs.Minimization.{false_none}
use Rattle.sat_learn.proofs.Visits.{visits_begun}
use Rattle.sat_learn.proofs.minimize.walk_all.Goals as goal

pub loop-lit-init : goal.loop-lit-init
loop-lit-init c =
    record {
      visits = visits_begun c.args.visits.now c.new-visited.result.items c.requires.unvisited;
      all_false = false_none (lits c.args.premises.now.trail.assignments) c.new-visited.result.items c.new-visited.ensures.items;
    }

pub walk-requires-clause-false_now : goal.walk-requires-clause-false_now
walk-requires-clause-false_now c = c.requires.false_now c.lit-item.result (has_at c.args.kept.now c.loop-lit.lit-index c.lit-item.result c.lit-item.result c.loop-lit-test.true c.lit-item.is)
