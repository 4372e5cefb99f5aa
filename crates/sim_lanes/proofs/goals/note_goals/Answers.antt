use Rattle.std.proofs.Common.{refl, arith, ◌∙◌}
use Rattle.sim_lanes.proofs.Marks.{noted_first, noted_next, noted_marks, noted_all}
use Rattle.sim_lanes.proofs.goals.note_goals.Goals as goal

pub loop-lane-init : goal.loop-lane-init
loop-lane-init c = record {
  goals = refl;
  noted = noted_first c.args.circuit.now c.args.signals.now.lits c.args.values.now c.args.live c.args.step c.args.seen.now c.args.visits.now.visits;
}

pub loop-lane-preserved : goal.loop-lane-preserved
loop-lane-preserved c = record {
  goals = c.note_lane.ensures.goals ∙ c.loop-lane.invariant.goals;
  noted = noted_next c.args.circuit.now c.args.signals.now.lits c.args.values.now c.args.live c.args.step c.args.seen.now c.args.visits.now.visits c.loop-lane.lane
      c.loop-lane.rest c.in_ok-rest.rest c.loop-lane.seen c.note_lane.new.seen c.loop-lane.visits.visits c.note_lane.new.visits.visits c.is_well_formed.ensures
      c.loop-lane-test.true c.loop-lane.invariant.noted c.in_ok-rest.ensures.notes;
}

pub returns-clause-marks : goal.returns-clause-marks
returns-clause-marks c =
    noted_marks c.args.circuit.now c.args.signals.now.lits c.args.values.now c.args.live c.args.step c.args.seen.now c.args.visits.now.visits c.loop-lane.lane c.loop-lane.rest
    c.loop-lane.seen c.loop-lane.visits.visits (omega arith) c.loop-lane.invariant.noted

pub returns-clause-visits : goal.returns-clause-visits
returns-clause-visits c =
    noted_all c.args.circuit.now c.args.signals.now.lits c.args.values.now c.args.live c.args.step c.args.seen.now c.args.visits.now.visits c.loop-lane.lane c.loop-lane.rest
    c.loop-lane.seen c.loop-lane.visits.visits (omega arith) c.loop-lane.invariant.noted
