use Rattle.std.proofs.Common.{◌≡◌, drop}
use Rattle.aig_model.specs.Meaning.{goal_of}
use Rattle.aig_eval.proofs.goal.goal_of.Given as goal

abbrev pub invariant-loop-place : goal.invariant-loop-place
invariant-loop-place l = l.goal ≡ goal_of (drop l.place l.lits) l.values
