use Rattle.std.proofs.Common.{take, All}
use Rattle.lrat_text.specs.Text.{HasProofLiterals}
use Rattle.report_text.specs.declared.report.Block.{Block}
use Rattle.run_report.proofs.literals.blocks_literals_fit.Given as goal

abbrev pub invariant-loop-block : goal.invariant-loop-block
invariant-loop-block l = All (λ (b : Block). HasProofLiterals b.proof) (take l.block-index l.block-items)
