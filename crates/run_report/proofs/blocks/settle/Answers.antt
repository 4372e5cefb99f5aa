use Rattle.std.proofs.Common.{◌<◌, ◌++◌, ◌∷◌, [], List, length, sym, subst, rules}
use Rattle.std.proofs.lemmas.Iterator.Consumers.{YieldsList-turn}
use Rattle.std.proofs.lemmas.Iterator.Adapters.{YieldsList-from_vec}
use Rattle.report_text.specs.declared.report.GoalBlock.{GoalBlock}
use Rattle.run_report.specs.declared.posts.Post.{Post}
use Rattle.run_report.specs.Blocks.{AreAfter}
use Rattle.run_report.proofs.Settling.{after_more}
use Rattle.run_report.proofs.blocks.settle.Goals as goal

pub loop-post-preserved : goal.loop-post-preserved
loop-post-preserved c =
    let p = c.in-Some.post in
    let opens = c.args.opens.items in
    let turn = YieldsList-turn (YieldsList-from_vec {s = c.into_iter-post-iterator.result} c.args.posts (search rules) (search rules))
    c.loop-post.yielded c.loop-post.post-iterator c.loop-post.yielded_by c.next.result c.next.new.self p c.in-Some.is c.next.ensures.steps in
    let below : p.entry.goal < length opens =
    subst (λ (x : Post). x.entry.goal < length opens) (sym turn.1) (c.requires.goals (length c.loop-post.yielded) p turn.0) in
    subst (λ (bs : List GoalBlock). AreAfter opens (c.loop-post.yielded ++ p ∷ []) bs) (sym c.settle_one.ensures)
    (after_more opens c.loop-post.yielded p c.loop-post.blocks.items c.loop-post.invariant c.requires.open below)
