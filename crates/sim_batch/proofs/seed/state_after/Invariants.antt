use Rattle.std.proofs.Common.{◌≡◌, length}
use Rattle.sim_batch.specs.Seeds.{LeadsTo}
use Rattle.sim_batch.proofs.seed.state_after.Given as goal

abbrev pub invariant-loop-step : goal.invariant-loop-step
invariant-loop-step l = record {
  size : length l.state ≡ length l.circuit.latches;
  leads : LeadsTo l.circuit l.trace l.step l.state;
}
