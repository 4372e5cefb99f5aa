use Rattle.std.proofs.Common.{true, set, ap, ◌∙◌, arith}
use Rattle.aig_model.specs.declared.parts.Latch.{Latch}
use Rattle.unroll.proofs.UndefinedVars.{marks_step_of, room_of}
use Rattle.unroll.proofs.undefined.mark_latches.Goals as goal

pub set-requires : goal.set-requires
set-requires c =
    let room = room_of (λ (x : Latch). x.lit) c.args.marks.now c.loop-latch.marks c.args.latches.now c.loop-latch.latch-index c.latch-item.result (omega arith) c.latch-item.is
    c.loop-latch.invariant.size c.requires in
    omega (arith, room, c.var.ensures)

pub loop-latch-preserved : goal.loop-latch-preserved
loop-latch-preserved c =
    let here = c.loop-latch.marks in
    marks_step_of (λ (x : Latch). x.lit) c.args.marks.now here c.set.new.self c.args.latches.now c.loop-latch.latch-index c.latch-item.result (omega arith) c.latch-item.is
    c.requires c.loop-latch.invariant
    (c.set.ensures ∙ ap (λ v. set here v true) c.var.ensures)
