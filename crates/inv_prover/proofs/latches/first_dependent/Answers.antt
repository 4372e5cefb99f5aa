use Rattle.std.proofs.Common.{◌∙◌}
use Rattle.inv_prover.proofs.Places.{first_dependent, latches_inside}
use Rattle.inv_prover.proofs.latches.first_dependent.Goals as goal

pub first_marked-requires-clause-inside : goal.first_marked-requires-clause-inside
first_marked-requires-clause-inside c =
    latches_inside c.args.circuit.now c.as_slice.result.now c.in_ok-marks.marks c.is_well_formed.ensures (c.as_slice.ensures ∙ c.latches.ensures) c.in_ok-marks.ensures.size

pub returns-clause-dependent : goal.returns-clause-dependent
returns-clause-dependent c =
    first_dependent c.args.circuit.now c.args.signals.now.lits c.as_slice.result.now c.in_ok-marks.marks c.in_ok-found.found.items (c.as_slice.ensures ∙ c.latches.ensures)
    c.in_ok-marks.ensures.exactly c.in_ok-found.ensures
