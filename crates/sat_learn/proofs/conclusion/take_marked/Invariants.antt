use Rattle.std.proofs.Common.{take}
use Rattle.sat_learn.specs.Tracking.{IsTaken}
use Rattle.sat_learn.proofs.conclusion.take_marked.Given as goal

-- those so far are taken
abbrev pub invariant-loop-lit : goal.invariant-loop-lit
invariant-loop-lit l = IsTaken l.fn.marks l.marks (take l.lit-index l.kept) l.fn.first l.taken.items
