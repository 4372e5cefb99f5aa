use Rattle.sim_lanes.proofs.MaskLanes.{KeptWords}
use Rattle.sim_lanes.proofs.masks.keep.Given as goal

abbrev pub invariant-loop-place : goal.invariant-loop-place
invariant-loop-place l = KeptWords l.state l.initial.kept l.kept l.live l.place
