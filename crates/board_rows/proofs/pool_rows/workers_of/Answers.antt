use Rattle.std.proofs.Common.{◌∷◌, [], All, length, length-append, arith, ap, sym, ◌∙◌, subst}
use Rattle.std.proofs.lemmas.List.Elements.{All-push}
use Rattle.seed_pool.specs.Seats.{PoolSeatState, IsSeatOf}
use Rattle.seed_pool.proofs.Ends.{all_popped}
use Rattle.board_rows.specs.declared.pool_rows.Ball.{Ball}
use Rattle.board_rows.specs.declared.pool_rows.Worker.{Worker}
use Rattle.board_rows.proofs.pool_rows.workers_of.Goals as goal

pub loop-seat-preserved : goal.loop-seat-preserved
loop-seat-preserved c =
    let i = c.loop-seat.invariant in
    let p = c.in-Some.ensures.some in
    let of = all_popped (λ (s : PoolSeatState Ball). IsSeatOf c.args.pool.now s) c.loop-seat.seats.seats c.pop.new.self.seats c.in-Some.seat p i.seats in
    let items = c.in_ok-push.ensures.items in
    let next = subst (λ (s : PoolSeatState Ball). IsSeatOf c.args.pool.now s) (sym c.in_ok-next.ensures) of.1 in
    record {
      seats = of.0;
      workers = subst (All (λ (w : Worker). IsSeatOf c.args.pool.now w.seat)) (sym items) (All-push (λ (w : Worker). IsSeatOf c.args.pool.now w.seat) c.loop-seat.workers.items c.in_ok-next.next i.workers next);
      count = omega (arith, i.count, ap length p, ap length items, length-append c.pop.new.self.seats (c.in-Some.seat ∷ []), length-append c.loop-seat.workers.items (c.in_ok-next.next ∷ []));
      room = c.pop.ensures.room ∙ i.room;
    }
