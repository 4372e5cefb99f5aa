use Rattle.std.proofs.Common.{◌∙◌}
use Rattle.aig_binary.proofs.Misplaced.{latch-misplaced, gates-checked}
use Rattle.aig_binary.proofs.order.misplaced.Goals as goal

pub returns-in-Some-misplaced_latch : goal.returns-in-Some-misplaced_latch
returns-in-Some-misplaced_latch c =
    latch-misplaced c.args.circuit.now c.as_slice-inputs.result.now c.as_slice-latches.result.now c.in-Some-misplaced_latch.lit (c.as_slice-inputs.ensures ∙ c.inputs.ensures)
    (c.as_slice-latches.ensures ∙ c.latches.ensures) c.in_default.ensures c.in-Some-misplaced_latch.ensures

pub returns : goal.returns
returns c =
    gates-checked c.args.circuit.now c.as_slice-inputs.result.now c.as_slice-latches.result.now c.as_slice.result.now c.misplaced_gate.result (c.as_slice-inputs.ensures ∙ c.inputs.ensures)
    (c.as_slice-latches.ensures ∙ c.latches.ensures) (c.as_slice.ensures ∙ c.gates.ensures) c.in_default.ensures c.in_default-misplaced_latch.ensures c.misplaced_gate.ensures
