use Rattle.std.specs.List.{flat_map, range_with_len}
use Rattle.unroll.specs.Frames.{frame_clauses}
use Rattle.unroll.proofs.Growth.{grows, steps_more}
use Rattle.unroll.proofs.frame.all_frames.Goals as goal

pub loop-step-preserved : goal.loop-step-preserved
loop-step-preserved c =
    let frame = frame_clauses c.args.circuit.now c.args.start.now in
    let step = c.loop-step.step in
    grows c.new-formula.result c.loop-step.formula c.add_frame.new.formula (flat_map frame (range_with_len 0 step)) (frame step) _ c.loop-step.invariant
    c.in_ok-add_frame.ensures (steps_more frame step)
