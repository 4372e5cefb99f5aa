use Rattle.std.proofs.Common.{◌≡◌, length}
use Rattle.sat_solver.specs.Gathered.{IsGathered}
use Rattle.sat_solver.proofs.gathered.Gathered.clear.Given as goal

abbrev pub invariant-loop-lit : goal.invariant-loop-lit
invariant-loop-lit l = record {
  gathered : IsGathered l.self;
  vars : l.self.vars ≡ l.initial.self.vars;
}

abbrev pub decreases-loop-lit : goal.decreases-loop-lit
decreases-loop-lit l = length l.self.lits.items
