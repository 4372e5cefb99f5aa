use Rattle.std.proofs.Common.{◌≡◌, ◌+◌, ◌∙◌, length, List, Bool, true, set, sym, ap, subst, take, arith}
use Rattle.std.proofs.lemmas.List.{take_all, length-set}
use Rattle.aig_model.specs.Literal.{var}
use Rattle.aig_model.specs.WellFormed.{left_sides}
use Rattle.aig_model.specs.Marks.{Marks}
use Rattle.aig_model.specs.declared.parts.AndGate.{AndGate}
use Rattle.aig_model.proofs.GateOrder.{gate_room, marks_next}
use Rattle.aig_model.proofs.order.mark_left_sides.Goals as goal

pub set-requires : goal.set-requires
set-requires c =
    let room = gate_room c.args.ahead.now c.loop-gate.ahead c.args.gates.now c.loop-gate.gate-index c.gate-item.result (omega arith) c.gate-item.is
    c.loop-gate.invariant.size c.requires.room in
    omega (arith, room 0 0 (omega arith), c.var.ensures)

pub loop-gate-preserved : goal.loop-gate-preserved
loop-gate-preserved c =
    let ahead = c.loop-gate.ahead in
    let gates = c.args.gates.now in
    let i = c.loop-gate.gate-index in
    let gate = c.gate-item.result in
    let room = gate_room c.args.ahead.now ahead gates i gate (omega arith) c.gate-item.is c.loop-gate.invariant.size c.requires.room in
    let written : c.set.new.self ≡ set ahead (var gate.lhs) true = c.set.ensures ∙ ap (λ v. set ahead v true) c.var.ensures in
    record {
      size = ap length written ∙ (length-set ahead (var gate.lhs) true ∙ c.loop-gate.invariant.size);
      marks = subst (λ (m : List Bool). Marks m (left_sides (take (i + 1) gates))) (sym written)
          (marks_next ahead gates i gate (omega arith) c.gate-item.is (room 0 0 (omega arith)) c.loop-gate.invariant.marks);
    }

pub returns-clause-marks : goal.returns-clause-marks
returns-clause-marks c =
    let whole = take_all c.loop-gate.gate-index c.args.gates.now (omega arith) in
    subst (λ (gates : List AndGate). Marks c.loop-gate.ahead (left_sides gates)) whole c.loop-gate.invariant.marks
