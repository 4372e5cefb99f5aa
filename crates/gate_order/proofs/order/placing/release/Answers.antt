use Rattle.std.proofs.Common.{◌≡◌, ◌≢◌, ℕ, ◌+◌, ◌-◌, ◌<◌, length, get_or, List, sym, ap, ◌∙◌, subst, arith}
use Rattle.std.proofs.lemmas.List.{get_or-set_same}
use Rattle.aig_model.specs.Literal.{number}
use Rattle.gate_order.specs.UserLists.{IsLastUser}
use Rattle.gate_order.specs.PlaceOrder.{is_user_from, Releases}
use Rattle.gate_order.proofs.Releasing.{releases_ready, releases_waiting, last_is_new, last_is_hit, others_stay, fewer}
use Rattle.gate_order.proofs.order.placing.release.Goals as goal
use Rattle.gate_order.proofs.order.placing.release.Goals.{then-waits-user-eq0+in_ok-push, else-waits-user-eq0}

pub loop-last-preserved : goal.loop-last-preserved
loop-last-preserved c =
    let users = c.args.users.now in
    let place = c.args.place in
    let last = c.loop-last.last in
    let earlier = c.earlier-last.result in
    let some : 0 < last = c.loop-last-test.true in
    let used : get_or users (last - 1) 0 ≡ place + 1 = c.loop-last.invariant.user some in
    let named : get_or users (last - 1) 0 - 1 ≡ place = omega arith in
    let is : IsLastUser users (last - 1) place earlier = subst (λ (p : ℕ). IsLastUser users (last - 1) p earlier) named c.earlier-last.ensures in
    let hit = is_user_from last users place in
    let more = is_user_from earlier users place in
    let remaining = c.loop-last.waits in
    let released = c.loop-last.invariant.released in
    let inside : last - 1 < length c.args.waits.now = omega (arith, c.loop-last.invariant.within, c.requires.size) in
    let new = last_is_new users place last earlier some used is in
    let now = last_is_hit users place last earlier some used is in
    let others = λ (u : ℕ) (h : u < length c.args.waits.now) (ne : u ≢ last - 1). others_stay users place last earlier some used is u ne in
    let positive : 0 < get_or remaining (last - 1) 0 =
    omega (arith, released.counts (last - 1) inside, ap number new, c.requires.waiting (last - 1) (omega (arith, inside, c.requires.size)) used)
    in
    let P : List ℕ → Type 0 = λ queue. Releases more c.args.waits.now c.args.queue.now (fewer remaining (last - 1)) queue in
    let written : get_or (fewer remaining (last - 1)) (last - 1) 0 ≡ get_or remaining (last - 1) 0 - 1 =
    get_or-set_same remaining (last - 1) (get_or remaining (last - 1) 0 - 1) 0 (omega (arith, inside, released.size))
    in
    record {
      within = omega (arith, is.within, c.loop-last.invariant.within);
      user = is.user;
      released = elim c.if-waits-user-eq0.branch [
        | then-waits-user-eq0+in_ok-push w ↦
            subst P (sym w.queue-is)
            (releases_ready hit more c.args.waits.now c.args.queue.now remaining c.loop-last.queue (last - 1) released inside new now others positive _
            (sym written ∙ w.if-waits-user-eq0.true) w.in_ok-push.ensures)
        | else-waits-user-eq0 w ↦
            subst P (sym w.queue-is)
            (releases_waiting hit more c.args.waits.now c.args.queue.now remaining c.loop-last.queue (last - 1) released inside new now others positive
            (λ zero. w.if-waits-user-eq0.false (written ∙ zero)))
      ];
    }
