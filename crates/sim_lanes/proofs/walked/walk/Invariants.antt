use Rattle.std.proofs.Common.{◌≡◌, ◌+◌, ◌*◌, ◌^◌, ℕ, ◌<◌, length}
use Rattle.std.specs.Prelude.{option_copied}
use Rattle.sim_batch.specs.Batch.{lanes_of, start_bits}
use Rattle.sim_batch.specs.Ends.{IsOver}
use Rattle.sim_batch.specs.Steps.{VisitsBefore}
use Rattle.sim_batch.specs.Words.{after_words, batch_generator}
use Rattle.sim_lanes.specs.LaneValues.{AreBlank}
use Rattle.sim_lanes.specs.Lanes.{AreLanesAt, AreSized}
use Rattle.sim_lanes.proofs.walked.walk.Given as goal

abbrev pub invariant-loop-step : goal.invariant-loop-step
invariant-loop-step l = record {
  words : length l.words.items ≡ length l.circuit.inputs;
  blank : AreBlank l.circuit l.values.items;
  sized : AreSized l.circuit l.signals.lits l.lanes;
  goals : l.visits.goals ≡ 2 ^ length l.signals.lits;
  generator : l.generator ≡ after_words (batch_generator l.options.seed l.batch) (start_bits l.circuit (option_copied l.from) + l.step * length l.circuit.inputs);
  at : AreLanesAt l.circuit l.signals.lits (lanes_of l.circuit l.options.seed l.batch (option_copied l.from)) l.step l.lanes;
  so_far : VisitsBefore l.circuit l.signals.lits (lanes_of l.circuit l.options.seed l.batch (option_copied l.from)) l.step 0 l.visits.visits;
  going : (s : ℕ) → s < l.step → ¬ IsOver l.circuit l.signals.lits (lanes_of l.circuit l.options.seed l.batch (option_copied l.from)) l.options.stall s;
}
