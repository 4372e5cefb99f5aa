use Rattle.std.proofs.Common.{List, subst, arith, All}
use Rattle.lrat_text.specs.Text.{HasProofLiterals}
use Rattle.report_text.specs.declared.report.Block.{Block}
use Rattle.run_report.proofs.Counts.{all_more, all_whole}
use Rattle.run_report.proofs.literals.blocks_literals_fit.Goals as goal

pub loop-block-preserved : goal.loop-block-preserved
loop-block-preserved c =
    all_more (λ (b : Block). HasProofLiterals b.proof) c.as_slice-block-items.result.now c.loop-block.block-index c.block-item.result c.loop-block-test.true c.block-item.is c.loop-block.invariant c.proof_literals_fit.ensures

pub returns : goal.returns
returns c =
    subst (λ (xs : List (Block)). All (λ (b : Block). HasProofLiterals b.proof) xs) c.as_slice-block-items.ensures
    (all_whole (λ (b : Block). HasProofLiterals b.proof) c.as_slice-block-items.result.now c.loop-block.block-index (omega (arith, c.loop-block-test.false)) c.loop-block.invariant)
