use Rattle.std.proofs.Common.{sym, ◌∙◌}
use Rattle.std.proofs.lemmas.Bool.{false≢true}
use Rattle.sweep_search.proofs.Marks.{listed_more, listed_past}
use Rattle.sweep_search.proofs.blocked.marked_goals.Goals.{then-get+in_ok-push, else-get}
use Rattle.sweep_search.proofs.blocked.marked_goals.Goals as goal

pub loop-goal-preserved : goal.loop-goal-preserved
loop-goal-preserved c =
    let marks = c.args.marks.now in
    let at = c.loop-goal.goal in
    let so_far = c.loop-goal.invariant in
    elim c.if-get.branch [
      | then-get+in_ok-push w ↦ (
          let here = sym c.get.ensures ∙ w.if-get.true in
          let pushed = w.in_ok-push.ensures.ok in
          rw w.goals-is (rw pushed (listed_more marks at c.loop-goal.goals so_far here))
          )
      | else-get w ↦ rw w.goals-is (listed_past marks at c.loop-goal.goals so_far (λ marked. false≢true (sym w.if-get.false ∙ (c.get.ensures ∙ marked))))
    ]
