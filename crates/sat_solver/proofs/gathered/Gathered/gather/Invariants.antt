use Rattle.std.proofs.Common.{◌≡◌}
use Rattle.sat_solver.specs.Gathered.{IsGathered}
use Rattle.sat_solver.proofs.GatheredLiterals.{AreTaken}
use Rattle.sat_solver.proofs.gathered.Gathered.gather.Given as goal

-- the literals of the clause so far are there, each once
abbrev pub invariant-loop-lit : goal.invariant-loop-lit
invariant-loop-lit l = record {
  gathered : IsGathered l.self;
  vars : l.self.vars ≡ l.initial.self.vars;
  taken : AreTaken l.clause l.lit-index l.self.lits.items;
}
