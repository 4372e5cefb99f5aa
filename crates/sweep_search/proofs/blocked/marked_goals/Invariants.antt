use Rattle.sweep_search.proofs.Marks.{AreListed}
use Rattle.sweep_search.proofs.blocked.marked_goals.Given as goal

abbrev pub invariant-loop-goal : goal.invariant-loop-goal
invariant-loop-goal l = AreListed l.marks l.goal l.goals
