use Rattle.gate_order.specs.StandingGates.{StandSoFar}
use Rattle.gate_order.proofs.order.standing.stand_in_order.Given as goal

abbrev pub invariant-loop-gate : goal.invariant-loop-gate
invariant-loop-gate l = StandSoFar l.gates l.gate-index l.last
