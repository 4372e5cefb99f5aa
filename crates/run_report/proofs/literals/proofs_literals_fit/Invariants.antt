use Rattle.std.proofs.Common.{take, All}
use Rattle.lrat_text.specs.Text.{HasProofLiterals}
use Rattle.run_report.proofs.literals.proofs_literals_fit.Given as goal

abbrev pub invariant-loop-proof : goal.invariant-loop-proof
invariant-loop-proof l = All (HasProofLiterals) (take l.proof-index l.proof-items)
