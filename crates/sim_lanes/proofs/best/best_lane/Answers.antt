use Rattle.std.proofs.Common.{arith}
use Rattle.sim_lanes.proofs.Walks.{best_made}
use Rattle.sim_lanes.proofs.best.best_lane.Goals as goal

pub returns : goal.returns
returns c =
    best_made c.args.seen.now c.loop-lane.best (omega (arith, c.loop-lane.invariant.inside)) (λ j inside. c.loop-lane.invariant.most j (omega (arith, inside)))
    c.loop-lane.invariant.least
