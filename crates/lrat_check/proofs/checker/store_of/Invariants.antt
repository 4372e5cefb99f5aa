use Rattle.std.proofs.Common.{◌≡◌}
use Rattle.lrat_check.proofs.FormulaIds.{numbered}
use Rattle.lrat_check.proofs.checker.store_of.Given as goal

abbrev pub invariant-loop-place : goal.invariant-loop-place
invariant-loop-place l = l.store ≡ numbered l.clause-items l.place
