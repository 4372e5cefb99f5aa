use Rattle.std.proofs.Common.{ℕ, ◌<◌}
use Rattle.sweep_search.specs.Sweep.{IsMarked}
use Rattle.run_report.proofs.proving.are_all_marked.Given as goal

abbrev pub invariant-loop-goal : goal.invariant-loop-goal
invariant-loop-goal l = (k : ℕ) → k < l.goal → IsMarked l.known k
