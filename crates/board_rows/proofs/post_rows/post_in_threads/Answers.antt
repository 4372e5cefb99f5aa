use Rattle.std.proofs.Common.{◌<◌, List, length, sym, ◌∙◌, subst, get_or}
use Rattle.goal_board.specs.Passes.{PassState}
use Rattle.board_rows.specs.Posters.{HasPosted}
use Rattle.std.proofs.lemmas.List.{take_at}
use Rattle.board_rows.proofs.post_rows.post_in_threads.Goals as goal

pub returns-clause-each : goal.returns-clause-each
returns-clause-each g c = λ k d lt.
    let board = c.args.board.now in
    let old = c.args.passes.now.items in
    let new = c.post_each.new.passes in
    let value = c.as_mut_slice.ensures.value in
    let inside = subst (λ (l : List PassState). k < length l) (sym value) lt in
    let at = subst (λ (l : List PassState). HasPosted board (get_or l k d) (get_or new k d)) value (c.post_each.ensures.each k d inside) in
    subst (λ (l : List PassState). HasPosted board (get_or old k d) (get_or l k d)) (sym (take_at new _ _ (c.post_each.ensures.len ∙ c.as_mut_slice.ensures.len))) at
