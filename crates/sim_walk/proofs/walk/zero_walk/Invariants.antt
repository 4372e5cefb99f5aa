use Rattle.std.proofs.Common.{◌≡◌, ◌^◌, length}
use Rattle.sim_walk.proofs.Walked.{Walked}
use Rattle.sim_walk.proofs.walk.zero_walk.Given as goal

abbrev pub invariant-loop-step : goal.invariant-loop-step
invariant-loop-step l = record {
  walked : Walked l.circuit l.signals.lits l.options.length l.step l.state l.visits.visits;
  goals : l.visits.goals ≡ 2 ^ length l.signals.lits;
}
