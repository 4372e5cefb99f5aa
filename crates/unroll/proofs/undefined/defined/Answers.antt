use Rattle.std.proofs.Common.{◌≡◌, ◌+◌, Bool, false, List, [], ◌++◌, length, sym, ap, ◌∙◌, subst, append_assoc, arith}
use Rattle.std.proofs.lemmas.List.{length-replicate}
use Rattle.aig_model.specs.WellFormed.{latch_lits, left_sides}
use Rattle.aig_model.specs.Marks.{Marks, HaveRoom}
use Rattle.aig_model.specs.declared.parts.AndGate.{AndGate}
use Rattle.aig_model.specs.declared.parts.Latch.{Latch}
use Rattle.aig_model.proofs.Building.{marks_nothing}
use Rattle.unroll.proofs.UndefinedVars.{latches_have_room, gates_have_room}
use Rattle.unroll.proofs.undefined.defined.Goals as goal

pub mark_latches-requires : goal.mark_latches-requires
mark_latches-requires c =
    let size : length c.in_ok-marks.marks ≡ c.top.result + 1 = ap length c.in_ok-marks.ensures ∙ length-replicate _ false in
    let same : length c.mark_lits.new.marks ≡ c.args.circuit.now.top + 1 = omega (arith, size, c.mark_lits.ensures.size, c.top.ensures.value) in
    subst (λ (ls : List Latch). HaveRoom c.mark_lits.new.marks (latch_lits ls)) (sym (c.as_slice-2.ensures ∙ c.latches.ensures))
    (latches_have_room c.args.circuit.now c.mark_lits.new.marks c.is_well_formed.ensures same)

pub mark_gates-requires : goal.mark_gates-requires
mark_gates-requires c =
    let size : length c.in_ok-marks.marks ≡ c.top.result + 1 = ap length c.in_ok-marks.ensures ∙ length-replicate _ false in
    let same : length c.mark_latches.new.marks ≡ c.args.circuit.now.top + 1 =
    omega (arith, size, c.mark_lits.ensures.size, c.mark_latches.ensures.size, c.top.ensures.value)
    in
    subst (λ (gs : List AndGate). HaveRoom c.mark_latches.new.marks (left_sides gs)) (sym (c.as_slice-3.ensures ∙ c.gates.ensures))
    (gates_have_room c.args.circuit.now c.mark_latches.new.marks c.is_well_formed.ensures same)

pub returns-clause-marks : goal.returns-clause-marks
returns-clause-marks c =
    let circuit = c.args.circuit.now in
    let inputs = circuit.inputs in
    let latches = latch_lits circuit.latches in
    let gates = left_sides circuit.gates in
    let m0 = c.in_ok-marks.marks in
    let m1 = c.mark_lits.new.marks in
    let m2 = c.mark_latches.new.marks in
    let m3 = c.mark_gates.new.marks in
    let none : Marks m0 [] = subst (λ (m : List Bool). Marks m []) (sym c.in_ok-marks.ensures) (marks_nothing _) in
    let first = c.mark_lits.ensures.marks [] none in
    let one : Marks m1 inputs = subst (Marks m1) (c.as_slice.ensures ∙ c.inputs.ensures) first in
    let two : Marks m2 (inputs ++ latches) =
    subst (λ (ls : List Latch). Marks m2 (inputs ++ latch_lits ls)) (c.as_slice-2.ensures ∙ c.latches.ensures) (c.mark_latches.ensures.marks inputs one)
    in
    let three : Marks m3 ((inputs ++ latches) ++ gates) =
    subst (λ (gs : List AndGate). Marks m3 ((inputs ++ latches) ++ left_sides gs)) (c.as_slice-3.ensures ∙ c.gates.ensures)
    (c.mark_gates.ensures.marks (inputs ++ latches) two)
    in
    subst (Marks m3) (append_assoc inputs latches gates) three
