use Rattle.std.proofs.Common.{List, subst, arith, All}
use Rattle.lrat_text.specs.Text.{HasProofLiterals}
use Rattle.lrat_text.specs.declared.proof.LratStep.{LratStep}
use Rattle.run_report.proofs.Counts.{all_more, all_whole}
use Rattle.run_report.proofs.literals.proofs_literals_fit.Goals as goal

pub loop-proof-preserved : goal.loop-proof-preserved
loop-proof-preserved c =
    all_more (HasProofLiterals) c.as_slice-proof-items.result.now c.loop-proof.proof-index c.proof-item.result c.loop-proof-test.true c.proof-item.is c.loop-proof.invariant c.proof_literals_fit.ensures

pub returns : goal.returns
returns c =
    subst (λ (xs : List (List LratStep)). All (HasProofLiterals) xs) c.as_slice-proof-items.ensures
    (all_whole (HasProofLiterals) c.as_slice-proof-items.result.now c.loop-proof.proof-index (omega (arith, c.loop-proof-test.false)) c.loop-proof.invariant)
