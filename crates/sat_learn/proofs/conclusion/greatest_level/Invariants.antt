use Rattle.std.proofs.Common.{take}
use Rattle.sat_learn.specs.Tracking.{IsGreatestLevel}
use Rattle.sat_learn.proofs.conclusion.greatest_level.Given as goal

-- it is the greatest so far
abbrev pub invariant-loop-lit : goal.invariant-loop-lit
invariant-loop-lit l = IsGreatestLevel l.trail (take l.lit-index l.kept) l.greatest
