use Rattle.std.proofs.Common.{true, set, ap, ◌∙◌, arith}
use Rattle.aig_model.specs.declared.parts.AndGate.{AndGate}
use Rattle.unroll.proofs.UndefinedVars.{marks_step_of, room_of}
use Rattle.unroll.proofs.undefined.mark_gates.Goals as goal

pub set-requires : goal.set-requires
set-requires c =
    let room = room_of (λ (x : AndGate). x.lhs) c.args.marks.now c.loop-gate.marks c.args.gates.now c.loop-gate.gate-index c.gate-item.result (omega arith) c.gate-item.is
    c.loop-gate.invariant.size c.requires in
    omega (arith, room, c.var.ensures)

pub loop-gate-preserved : goal.loop-gate-preserved
loop-gate-preserved c =
    let here = c.loop-gate.marks in
    marks_step_of (λ (x : AndGate). x.lhs) c.args.marks.now here c.set.new.self c.args.gates.now c.loop-gate.gate-index c.gate-item.result (omega arith) c.gate-item.is
    c.requires c.loop-gate.invariant
    (c.set.ensures ∙ ap (λ v. set here v true) c.var.ensures)
