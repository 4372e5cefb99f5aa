use Rattle.std.proofs.Common.{◌≤◌, length, true, false, lit≤, arith}
use mir.Val.{bool_byte}
use Rattle.aig_eval.proofs.Goals.{goal-small}
use Rattle.sim_lanes.specs.LaneValues.{lane_values}
use Rattle.sim_lanes.proofs.masks.lanes_of_goal.Goals as goal

pub overflow_mul-goal : goal.overflow_mul-goal
overflow_mul-goal c =
    let few : length c.lits-lits.result.now ≤ 10 = rw c.lits-lits.ensures.value c.lits-lits.ensures.well_formed.few in
    omega (arith, goal-small c.lits-lits.result.now (lane_values c.args.lane c.args.values.now) c.loop-place.place few, c.loop-place.invariant.goal)

pub overflow_add-goal : goal.overflow_add-goal
overflow_add-goal c =
    let few : length c.lits-lits.result.now ≤ 10 = rw c.lits-lits.ensures.value c.lits-lits.ensures.well_formed.few in
    let bit : c.from.result ≤ 1 = rw c.from.ensures (elim c.lane_bit-bit.result as (λ bit. bool_byte bit ≤ 1) [ true ↦ lit≤ tt | false ↦ lit≤ tt ]) in
    omega (arith, goal-small c.lits-lits.result.now (lane_values c.args.lane c.args.values.now) c.loop-place.place few, c.loop-place.invariant.goal)
