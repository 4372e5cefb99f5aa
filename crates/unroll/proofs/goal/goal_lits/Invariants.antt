use Rattle.std.proofs.Common.{◌≡◌, ◌++◌, drop}
use Rattle.unroll.specs.Queries.{goal_lits}
use Rattle.unroll.proofs.goal.goal_lits.Given as goal

abbrev pub invariant-loop-lit : goal.invariant-loop-lit
invariant-loop-lit l = l.shown.items ++ goal_lits l.before (drop l.lit-index l.lits) l.rest ≡ goal_lits l.before l.lits l.initial.rest
