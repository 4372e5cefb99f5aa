use Rattle.sim_lanes.proofs.MaskLanes.{DeathsNoted}
use Rattle.sim_lanes.proofs.masks.note_deaths.Given as goal

abbrev pub invariant-loop-place : goal.invariant-loop-place
invariant-loop-place l = DeathsNoted l.dying l.step l.initial.died l.died l.place
