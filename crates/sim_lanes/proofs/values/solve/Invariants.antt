use Rattle.std.proofs.Common.{take}
use Rattle.sim_lanes.specs.LaneValues.{SolvesLanes}
use Rattle.sim_lanes.proofs.values.solve.Given as goal

abbrev pub invariant-loop-place : goal.invariant-loop-place
invariant-loop-place l = SolvesLanes (take l.place l.gates) l.initial.values l.values
