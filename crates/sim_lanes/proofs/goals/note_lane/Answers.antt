use Rattle.std.proofs.Common.{◌≡◌, ◌<◌, ◌^◌, true, sym, ◌∙◌, arith}
use Rattle.aig_model.proofs.OneGoal.{goal_of-lt}
use Rattle.sim_lanes.specs.LaneValues.{lane_values}
use Rattle.sim_lanes.proofs.Marks.{note_some}
use Rattle.sim_lanes.proofs.goals.note_lane.Goals as goal

pub bounds-seen-shown : goal.bounds-seen-shown
bounds-seen-shown c = omega (arith, c.lanes_of_goal-shown.ensures.goal, goal_of-lt c.args.signals.now.lits (lane_values c.args.visit.lane c.args.values.now), c.requires.seen)

pub bounds-seen-shown-2 : goal.bounds-seen-shown-2
bounds-seen-shown-2 c = omega (arith, c.lanes_of_goal-shown.ensures.goal, goal_of-lt c.args.signals.now.lits (lane_values c.args.visit.lane c.args.values.now), c.requires.seen)

pub add-requires : goal.add-requires
add-requires c = omega (arith, c.lanes_of_goal-shown.ensures.goal, goal_of-lt c.args.signals.now.lits (lane_values c.args.visit.lane c.args.values.now), c.requires.goals)

pub returns-clause-notes : goal.returns-clause-notes
returns-clause-notes c =
    let on : c.lane_bit.result ≡ true = cc in
    let fits : c.lanes_of_goal-shown.result.lanes < 2 ^ 64 = omega arith in
    note_some c.args.signals.now.lits c.args.values.now c.args.rest c.lanes_of_goal-shown.result.lanes c.lanes_of_goal-shown.result.goal c.args.visit c.args.seen.now
    c.args.visits.now.visits c.add.new.self.visits (sym c.lane_bit.ensures ∙ on) c.lanes_of_goal-shown.ensures.goal c.lanes_of_goal-shown.ensures.lanes
    (omega (arith, c.lanes_of_goal-shown.ensures.goal, goal_of-lt c.args.signals.now.lits (lane_values c.args.visit.lane c.args.values.now), c.requires.seen)) fits
    c.in_ok-add.ensures.ok
