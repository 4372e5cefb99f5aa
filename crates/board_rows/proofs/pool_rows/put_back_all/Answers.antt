use Rattle.std.proofs.Common.{◌≡◌, ◌∷◌, [], All, length, length-append, arith, ap, sym, ◌∙◌, subst}
use Rattle.std.proofs.lemmas.List.Elements.{All-push, All-head, All-tail}
use Rattle.std.specs.Vec.Iter.{into_iter_items}
use Rattle.seed_pool.specs.Seats.{PoolSeatState, IsSeatOf}
use Rattle.board_rows.specs.declared.pool_rows.Ball.{Ball}
use Rattle.board_rows.specs.declared.pool_rows.Worker.{Worker}
use Rattle.board_rows.proofs.pool_rows.put_back_all.Goals as goal

pub put_back-requires : goal.put_back-requires
put_back-requires c =
    let at = c.loop-worker in
    let steps : into_iter_items at.worker-iterator ≡ c.in-Some.worker ∷ into_iter_items c.next.new.self = c.in-Some.ensures.steps.0 in
    omega (arith, at.invariant.count, at.invariant.room, ap length steps)

pub loop-worker-preserved : goal.loop-worker-preserved
loop-worker-preserved c =
    let at = c.loop-worker in
    let steps : into_iter_items at.worker-iterator ≡ c.in-Some.worker ∷ into_iter_items c.next.new.self = c.in-Some.ensures.steps.0 in
    let of = subst (All (λ (w : Worker). IsSeatOf c.args.pool.now w.seat)) steps at.invariant.left in
    let mine = All-head (λ (w : Worker). IsSeatOf c.args.pool.now w.seat) c.in-Some.worker (into_iter_items c.next.new.self) of in
    let seats = c.put_back.ensures.seats in
    record {
      long = omega (arith, at.invariant.long, c.in-Some.ensures.steps.1, ap length steps);
      left = All-tail (λ (w : Worker). IsSeatOf c.args.pool.now w.seat) c.in-Some.worker (into_iter_items c.next.new.self) of;
      seats = subst (All (λ (s : PoolSeatState Ball). IsSeatOf c.args.pool.now s)) (sym seats) (All-push (λ (s : PoolSeatState Ball). IsSeatOf c.args.pool.now s) at.seats.seats c.in-Some.worker.seat at.invariant.seats mine);
      count = omega (arith, at.invariant.count, ap length steps, ap length seats, length-append at.seats.seats (c.in-Some.worker.seat ∷ []));
      room = c.put_back.ensures.room ∙ at.invariant.room;
    }
