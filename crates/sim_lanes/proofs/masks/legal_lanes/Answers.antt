use Rattle.aig_eval.proofs.Sections.{room_for_constraints}
use Rattle.sim_lanes.proofs.masks.legal_lanes.Goals as goal

pub true_lanes-requires : goal.true_lanes-requires
true_lanes-requires c = rw (c.as_slice.ensures, c.constraints.ensures, c.requires) (room_for_constraints c.args.circuit.now c.is_well_formed.ensures)
