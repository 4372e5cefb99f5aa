use Rattle.std.proofs.Common.{◌∙◌}
use Rattle.sat_solver.proofs.GatheredLiterals.{taken_more, taken_both_ways}
use Rattle.sat_solver.proofs.gathered.Gathered.gather.Goals as goal

pub returns-then-not-branch-clause-both_ways : goal.returns-then-not-branch-clause-both_ways
returns-then-not-branch-clause-both_ways c _ =
    taken_both_ways c.args.clause.now c.loop-lit.lit-index c.lit-item.result c.loop-lit.self.lits.items c.loop-lit-test.true c.lit-item.is c.loop-lit.invariant.taken (c.in_ok-take.ensures.both_ways c.if-not-branch.true)

pub loop-lit-preserved : goal.loop-lit-preserved
loop-lit-preserved c =
    record {
      gathered = c.in_ok-take.ensures.gathered;
      vars = c.in_ok-take.ensures.vars ∙ c.loop-lit.invariant.vars;
      taken = taken_more c.args.clause.now c.loop-lit.lit-index c.lit-item.result c.loop-lit.self.lits.items c.take.new.self.lits.items c.loop-lit-test.true c.lit-item.is (c.in_ok-take.ensures.fits c.if-not-branch.false) c.loop-lit.invariant.taken;
    }
