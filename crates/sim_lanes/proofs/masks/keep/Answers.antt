use Rattle.std.proofs.Common.{◌<◌, arith}
use Rattle.sim_lanes.proofs.MaskLanes.{keep_next, kept_all}
use Rattle.sim_lanes.proofs.masks.keep.Goals as goal

pub loop-place-preserved : goal.loop-place-preserved
loop-place-preserved c =
    keep_next c.args.state.now c.args.kept.now c.loop-place.kept c.args.live c.loop-place.place c.choose.result (omega (arith, c.requires, c.loop-place-test.true)) c.choose.ensures
    c.loop-place.invariant

pub returns : goal.returns
returns c = kept_all c.args.state.now c.args.kept.now c.loop-place.kept c.args.live c.loop-place.place (omega (arith, c.requires)) c.requires (omega arith) c.loop-place.invariant
