use Rattle.std.proofs.Common.{drop}
use Rattle.lrat_check.specs.Assumptions.{sign_at}
use Rattle.lrat_check.proofs.AssumedSigns.{Covers}
use Rattle.lrat_check.proofs.assumed.take_back.Given as goal

-- what the signs have is among the literals that are left
abbrev pub invariant-loop-assumption : goal.invariant-loop-assumption
invariant-loop-assumption l = Covers (drop l.assumption-index l.trail) (sign_at l.signs)
