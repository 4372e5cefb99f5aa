use Rattle.std.proofs.Common.{take}
use Rattle.std.specs.List.{AllByRecursion}
use Rattle.lrat_text.specs.Lrat.{IsLiteral}
use Rattle.report_text.proofs.literals.literals_fit.Given as goal

abbrev pub invariant-loop-lit : goal.invariant-loop-lit
invariant-loop-lit l = AllByRecursion IsLiteral (take l.lit-index l.lit-items)
