use Rattle.std.proofs.Common.{◌≡◌, ◌++◌, take}
use Rattle.goal_circuit.specs.GoalCircuit.{conjunctions}
use Rattle.goal_circuit.proofs.levels.push_conjunctions.Given as goal

abbrev pub invariant-loop-place : goal.invariant-loop-place
invariant-loop-place l = l.gates ≡ l.initial.gates ++ conjunctions l.first (take l.place l.level) l.right
