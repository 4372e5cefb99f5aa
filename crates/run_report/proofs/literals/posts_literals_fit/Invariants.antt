use Rattle.std.proofs.Common.{take, All}
use Rattle.run_report.specs.Lines.{HasBasisLiterals}
use Rattle.run_report.specs.declared.posts.Post.{Post}
use Rattle.run_report.proofs.literals.posts_literals_fit.Given as goal

abbrev pub invariant-loop-post : goal.invariant-loop-post
invariant-loop-post l = All (λ (p : Post). HasBasisLiterals p.basis) (take l.post-index l.post-items)
