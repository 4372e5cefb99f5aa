use Rattle.std.proofs.Common.{◌≡◌, map}
use Rattle.std.specs.Prelude.{option_copied}
use Rattle.std.specs.List.{range_with_len}
use Rattle.sim_batch.specs.Steps.{first_walk}
use Rattle.sim_batch.proofs.rounds.first_lanes.Given as goal

abbrev pub invariant-loop-lane : goal.invariant-loop-lane
invariant-loop-lane l = l.lanes.items ≡ map (first_walk l.circuit l.signals.lits (option_copied l.from) l.words) (range_with_len 0 l.lane)
