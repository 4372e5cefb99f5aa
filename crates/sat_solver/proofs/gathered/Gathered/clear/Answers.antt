use Rattle.sat_solver.proofs.GatheredLiterals.{gathered_pop}
use Rattle.sat_solver.proofs.gathered.Gathered.clear.Goals as goal

pub loop-lit-preserved : goal.loop-lit-preserved
loop-lit-preserved c =
    let before = c.loop-lit.invariant in
    let lit = c.in-Some.lit in
    record {
      gathered = gathered_pop c.loop-lit.self.vars c.loop-lit.self.marks.items c.loop-lit.self.lits.items c.pop.new.self.items lit c.index.result before.gathered c.in-Some.ensures.items c.index.ensures.place c.index.ensures.one_of_two;
      vars = before.vars;
    }
