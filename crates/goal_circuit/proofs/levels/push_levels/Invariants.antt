use Rattle.std.proofs.Common.{◌++◌, drop}
use Rattle.goal_circuit.specs.GoalCircuit.{new_gates, goal_literals}
use Rattle.goal_circuit.proofs.LevelGates.{IsLevel}
use Rattle.goal_circuit.proofs.levels.push_levels.Given as goal

abbrev pub invariant-loop-signal : goal.invariant-loop-signal
invariant-loop-signal l =
    IsLevel l.gates (l.initial.gates ++ new_gates l.initial.var l.initial.last l.signals) (goal_literals l.initial.var l.initial.last l.signals) l.var l.last
    (drop l.signal-index l.signals)
