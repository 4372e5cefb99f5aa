use Rattle.std.proofs.lemmas.List.{length-replicate}
use Rattle.aig_eval.proofs.Filling.{filled}
use Rattle.aig_eval.proofs.Sections.{assignable_inputs, assignable_latches, solvable_gates}
use Rattle.aig_eval.proofs.step.step_values.Goals as goal

pub assign-requires-clause-lits : goal.assign-requires-clause-lits
assign-requires-clause-lits c =
    rw (c.in_ok-values.ensures, c.top.ensures.value, length-replicate, c.inputs.ensures) (assignable_inputs c.args.circuit.now c.top.ensures.well_formed)

pub assign_latches-requires-clause-lits : goal.assign_latches-requires-clause-lits
assign_latches-requires-clause-lits c =
    rw (c.assign.ensures.size, c.in_ok-values.ensures, c.top.ensures.value, length-replicate, c.latches.ensures)
    (assignable_latches c.args.circuit.now c.top.ensures.well_formed)

pub solve-requires : goal.solve-requires
solve-requires c =
    rw (c.assign_latches.ensures.size, c.assign.ensures.size, c.in_ok-values.ensures, c.top.ensures.value, length-replicate, c.gates.ensures)
    (solvable_gates c.args.circuit.now c.top.ensures.well_formed)

pub returns : goal.returns
returns c =
    filled c.args.circuit.now c.args.state.now c.args.row.now c.assign.new.values c.assign_latches.new.values c.solve.new.values
    c.top.ensures.well_formed
    (rw (c.inputs.ensures, c.in_ok-values.ensures, c.top.ensures.value) at c.assign.ensures)
    (rw c.latches.ensures at c.assign_latches.ensures)
    (rw c.gates.ensures at c.solve.ensures)
