use Rattle.sim_lanes.proofs.MaskLanes.{HandedOn}
use Rattle.sim_lanes.proofs.masks.hand_on.Given as goal

abbrev pub invariant-loop-place : goal.invariant-loop-place
invariant-loop-place l = HandedOn l.latches l.values l.initial.state l.state l.live l.place
