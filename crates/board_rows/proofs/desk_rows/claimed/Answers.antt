use Rattle.std.proofs.Common.{All, ◌++◌, List, sym, ap, subst, ◌∙◌}
use Rattle.job_desk.specs.Seats.{JobSeatState, JobSeatsState, AreAllOf}
use Rattle.board_rows.specs.Callers.{IsReady, listed}
use Rattle.board_rows.proofs.Listed.{all_after, all_new}
use Rattle.board_rows.proofs.desk_rows.claimed.Goals as goal

pub claim_in_threads-requires-after_bounds : goal.claim_in_threads-requires-after_bounds
claim_in_threads-requires-after_bounds g c κs within =
    let made = c.in_ok-desk.ensures.seats in
    let taken = c.in_ok-taken.ensures.taken in
    subst (All (IsReady c.in_ok-desk.desk)) (sym (taken ∙ made)) (all_new c.in_ok-desk.desk c.args.callers)

pub finish-requires : goal.finish-requires
finish-requires g c =
    let seats = c.in_ok-desk.seats in
    let taken = c.in_ok-taken.ensures.taken in
    let empty = c.in_ok-taken.ensures.empty in
    let before : AreAllOf c.in_ok-desk.desk (listed c.in_ok-taken.taken.items seats.room) = subst (λ (l : List JobSeatState). AreAllOf c.in_ok-desk.desk (listed l seats.room)) (sym taken) c.in_ok-desk.ensures.all in
    let after = all_after c.in_ok-desk.desk seats.room c.in_ok-taken.taken.items c.claim_in_threads.new.seats.items c.claim_in_threads.ensures.len c.claim_in_threads.ensures.each before in
    let same = c.put_all_back.ensures ∙ ap (λ (s : JobSeatsState). listed (s.seats ++ c.claim_in_threads.new.seats.items) s.room) empty in
    record { all = subst (AreAllOf c.in_ok-desk.desk) (sym same) after }
