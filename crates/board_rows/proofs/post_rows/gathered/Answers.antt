use Rattle.std.proofs.Common.{All, ◌++◌, List, refl, sym, ap, subst, ◌∙◌}
use Rattle.goal_board.specs.Passes.{PassState, PassesState, IsPassOf, AreAllOf}
use Rattle.board_rows.specs.Posters.{passes_at_hand}
use Rattle.board_rows.proofs.Posted.{ArePosted, all_posted}
use Rattle.board_rows.proofs.post_rows.gathered.Goals as goal

pub post_in_threads-requires-clause-passes : goal.post_in_threads-requires-clause-passes
post_in_threads-requires-clause-passes g c κs within =
    subst (All (IsPassOf c.in_ok-board.board)) (sym c.in_ok-taken.ensures.taken) c.in_ok-board.ensures.all.of_board

pub gather-requires : goal.gather-requires
gather-requires g c =
    let board = c.in_ok-board.board in
    let made = c.in_ok-board.passes in
    let at_hand = λ (l : List PassState). passes_at_hand l made.room made.goals in
    let taken = c.in_ok-taken.taken.items in
    let before : AreAllOf board (at_hand taken) = subst (λ (l : List PassState). AreAllOf board (at_hand l)) (sym c.in_ok-taken.ensures.taken) c.in_ok-board.ensures.all in
    let posted : ArePosted board taken c.post_in_threads.new.passes.items = record { len = c.post_in_threads.ensures.len; each = c.post_in_threads.ensures.each } in
    let after = all_posted board (at_hand taken) (at_hand c.post_in_threads.new.passes.items) posted refl refl before in
    let same = c.put_all_back.ensures ∙ ap (λ (s : PassesState). passes_at_hand (s.passes ++ c.post_in_threads.new.passes.items) s.room s.goals) c.in_ok-taken.ensures.empty in
    subst (AreAllOf board) (sym same) after
