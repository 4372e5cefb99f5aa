use Rattle.std.proofs.Common.{◌≡◌}
use Rattle.sat_solver.specs.Gathered.{IsGathered}
use Rattle.sat_solver.specs.InputClauses.{IsLoadedIn, store}
use Rattle.sat_solver.proofs.input_clauses.load.Given as goal

abbrev pub invariant-loop-index : goal.invariant-loop-index
invariant-loop-index l = record {
  gathered : IsGathered l.gathered;
  vars : l.gathered.vars ≡ l.formula.vars;
  loaded : IsLoadedIn l.formula l.index (store l.premises);
}
