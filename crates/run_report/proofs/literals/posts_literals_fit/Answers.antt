use Rattle.std.proofs.Common.{List, subst, arith, All}
use Rattle.run_report.specs.Lines.{HasBasisLiterals}
use Rattle.run_report.specs.declared.posts.Post.{Post}
use Rattle.run_report.proofs.Counts.{all_more, all_whole}
use Rattle.run_report.proofs.literals.posts_literals_fit.Goals as goal

pub loop-post-preserved : goal.loop-post-preserved
loop-post-preserved c =
    all_more (λ (p : Post). HasBasisLiterals p.basis) c.as_slice-post-items.result.now c.loop-post.post-index c.post-item.result c.loop-post-test.true c.post-item.is c.loop-post.invariant c.basis_literals_fit.ensures

pub returns : goal.returns
returns c =
    subst (λ (xs : List (Post)). All (λ (p : Post). HasBasisLiterals p.basis) xs) c.as_slice-post-items.ensures
    (all_whole (λ (p : Post). HasBasisLiterals p.basis) c.as_slice-post-items.result.now c.loop-post.post-index (omega (arith, c.loop-post-test.false)) c.loop-post.invariant)
