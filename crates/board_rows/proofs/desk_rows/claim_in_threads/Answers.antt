use Rattle.std.proofs.Common.{◌<◌, List, length, sym, ◌∙◌, subst, get_or}
use Rattle.job_desk.specs.Seats.{JobSeatState}
use Rattle.board_rows.specs.Callers.{HasClaimed}
use Rattle.std.proofs.lemmas.List.{take_at}
use Rattle.board_rows.proofs.desk_rows.claim_in_threads.Goals as goal

pub returns-clause-each : goal.returns-clause-each
returns-clause-each g c = λ k d lt.
    let old = c.args.seats.now.items in
    let new = c.claim_each.new.seats in
    let value = c.as_mut_slice.ensures.value in
    let inside = subst (λ (l : List JobSeatState). k < length l) (sym value) lt in
    let at = subst (λ (l : List JobSeatState). HasClaimed (get_or l k d) (get_or new k d)) value (c.claim_each.ensures.each k d inside) in
    subst (λ (l : List JobSeatState). HasClaimed (get_or old k d) (get_or l k d)) (sym (take_at new _ _ (c.claim_each.ensures.len ∙ c.as_mut_slice.ensures.len))) at
