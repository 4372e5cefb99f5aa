use Rattle.std.proofs.Common.{take}
use Rattle.aig_model.specs.WellFormed.{latch_lits}
use Rattle.sim_lanes.specs.LaneValues.{AssignsLanes}
use Rattle.sim_lanes.proofs.values.assign_latches.Given as goal

abbrev pub invariant-loop-place : goal.invariant-loop-place
invariant-loop-place l = AssignsLanes (take l.place (latch_lits l.latches)) (take l.place l.words) l.initial.values l.values
