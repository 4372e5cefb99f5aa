use Rattle.aig_eval.proofs.Sections.{room_for_constraints}
use Rattle.aig_eval.proofs.state.is_legal.Goals as goal

pub are_true-requires : goal.are_true-requires
are_true-requires c = rw (c.as_slice.ensures, c.constraints.ensures, c.requires) (room_for_constraints c.args.circuit.now c.is_well_formed.ensures)
