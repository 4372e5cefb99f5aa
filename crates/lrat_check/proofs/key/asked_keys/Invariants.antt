use Rattle.std.proofs.Common.{take}
use Rattle.std.specs.List.{All}
use Rattle.lrat_check.specs.ClauseKeys.{HoldsStep}
use Rattle.lrat_check.proofs.key.asked_keys.Given as goal

abbrev pub invariant-loop-step : goal.invariant-loop-step
invariant-loop-step l = All (HoldsStep l.asked) (take l.step-index l.steps)
