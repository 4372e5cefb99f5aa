use Rattle.std.proofs.Common.{take}
use Rattle.std.specs.List.{AllByRecursion}
use Rattle.lrat_text.specs.Text.{HasLiterals}
use Rattle.report_text.proofs.literals.proof_literals_fit.Given as goal

abbrev pub invariant-loop-step : goal.invariant-loop-step
invariant-loop-step l = AllByRecursion HasLiterals (take l.step-index l.step-items)
