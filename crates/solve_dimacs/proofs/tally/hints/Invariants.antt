use Rattle.std.proofs.Common.{◌≡◌, min, take}
use Rattle.solve_dimacs.specs.Tally.{hint_count}
use Rattle.solve_dimacs.proofs.tally.hints.Given as goal

abbrev pub invariant-loop-step : goal.invariant-loop-step
invariant-loop-step l = l.count ≡ min (hint_count (take l.step-index l.step-items)) 18446744073709551615
