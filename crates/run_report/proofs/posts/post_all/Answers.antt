use Rattle.std.proofs.Common.{◌≡◌, ℕ, ◌+◌, ◌++◌, ◌∷◌, [], List, length, sym, ap, ◌∙◌, arith}
use Rattle.run_report.specs.declared.posts.Post.{Post}
use Rattle.run_report.specs.Posts.{post_of}
use Rattle.run_report.proofs.Posting.{length-posts, posts-push}
use Rattle.run_report.proofs.posts.post_all.Goals as goal

pub loop-finding-preserved : goal.loop-finding-preserved
loop-finding-preserved c =
    let fs = c.loop-finding.yielded in
    let number : c.len-number.result ≡ 0 + length fs = omega (arith, c.len-number.ensures, ap length c.loop-finding.invariant, length-posts fs) in
    c.in_ok-push.ensures.ok
    ∙ (ap (λ (p : Post). c.loop-finding.posts ++ p ∷ []) (c.post_of.ensures ∙ ap (λ (n : ℕ). post_of n c.in-Some.finding) number)
    ∙ (ap (λ (ps : List Post). ps ++ post_of (0 + length fs) c.in-Some.finding ∷ []) c.loop-finding.invariant ∙ sym (posts-push 0 fs c.in-Some.finding)))
