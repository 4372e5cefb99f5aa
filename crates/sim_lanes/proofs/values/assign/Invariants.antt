use Rattle.std.proofs.Common.{take}
use Rattle.sim_lanes.specs.LaneValues.{AssignsLanes}
use Rattle.sim_lanes.proofs.values.assign.Given as goal

abbrev pub invariant-loop-place : goal.invariant-loop-place
invariant-loop-place l = AssignsLanes (take l.place l.lits) (take l.place l.words) l.initial.values l.values
