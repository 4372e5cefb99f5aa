use Rattle.std.proofs.Common.{take}
use Rattle.aig_model.specs.WellFormed.{left_sides}
use Rattle.unroll.specs.Building.{MarksMore}
use Rattle.unroll.proofs.undefined.mark_gates.Given as goal

abbrev pub invariant-loop-gate : goal.invariant-loop-gate
invariant-loop-gate l = MarksMore l.initial.marks l.marks (left_sides (take l.gate-index l.gates))
