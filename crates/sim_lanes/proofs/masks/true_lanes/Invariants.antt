use Rattle.std.proofs.Common.{take}
use Rattle.sim_lanes.specs.LaneValues.{AreTrueLanes}
use Rattle.sim_lanes.proofs.masks.true_lanes.Given as goal

abbrev pub invariant-loop-place : goal.invariant-loop-place
invariant-loop-place l = AreTrueLanes l.values (take l.place l.lits) l.mask
