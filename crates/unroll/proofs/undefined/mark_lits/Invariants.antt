use Rattle.std.proofs.Common.{take}
use Rattle.unroll.specs.Building.{MarksMore}
use Rattle.unroll.proofs.undefined.mark_lits.Given as goal

abbrev pub invariant-loop-lit : goal.invariant-loop-lit
invariant-loop-lit l = MarksMore l.initial.marks l.marks (take l.lit-index l.lits)
