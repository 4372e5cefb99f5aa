use Rattle.sat_solver.specs.Steps.{IsSearchState, left}
use Rattle.sat_solver.proofs.solver.take_steps.Given as goal

abbrev pub invariant-steps : goal.invariant-steps
invariant-steps l = IsSearchState l.formula l.lemmas l.search

abbrev pub decreases-steps : goal.decreases-steps
decreases-steps l = left l.lemmas l.search
