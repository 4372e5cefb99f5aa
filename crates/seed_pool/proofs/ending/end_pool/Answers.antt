use Rattle.std.proofs.Common.{arith, ◌≡◌, [], ◌∷◌, length, ap, sym, ◌∙◌, length-append}
use Rattle.std.proofs.lemmas.Grind.{common_steps}
use Rattle.seed_pool.specs.Rule.{Sat}
use Rattle.seed_pool.specs.Lists.{total}
use Rattle.seed_pool.specs.Seats.{PoolState, PoolSeatState, PoolSeatsState, IsSeatOf}
use Rattle.seed_pool.proofs.Sums.{total-append, total-none}
use Rattle.seed_pool.proofs.Ends.{all_popped}
use Rattle.seed_pool.proofs.ending.end_pool.Goals as goal

pub loop-next-init : goal.loop-next-init
loop-next-init g c =
    let s : PoolSeatState g.row.S.Denot = c.in-Some.last in
    let p = sym (ap (λ (x : PoolSeatsState g.row.S.Denot). x.seats) c.seats.view_is) ∙ c.in-Some.ensures.items in
    let of = all_popped (λ (x : PoolSeatState g.row.S.Denot). IsSeatOf c.args.pool x) c.args.seats.seats c.pop.new.self.items s p c.requires.of_pool in
    let count = length-append c.pop.new.self.items (s ∷ []) in
    let view = c.last.view_is in
    record {
      at = ap (λ (x : PoolSeatState g.row.S.Denot). x.table) view ∙ of.1.table ∙ sym (ap (λ (x : PoolState). x.table) c.pool.view_is);
      parts = omega (arith, c.last.invariant.parts, c.requires.count, ap length p);
      some = omega (arith, c.last.invariant.parts);
      claim = c.last.invariant.claim;
      all = of.0;
      put = λ f. omega (arith, ap (λ (x : PoolSeatState g.row.S.Denot). total f x.put) view, ap (total (λ (x : PoolSeatState g.row.S.Denot). total f x.put)) p, total-append (λ (x : PoolSeatState g.row.S.Denot). total f x.put) c.pop.new.self.items (s ∷ []));
      taken = λ f. omega (arith, ap (λ (x : PoolSeatState g.row.S.Denot). total f x.taken) view, ap (total (λ (x : PoolSeatState g.row.S.Denot). total f x.taken)) p, total-append (λ (x : PoolSeatState g.row.S.Denot). total f x.taken) c.pop.new.self.items (s ∷ []));
    }

pub join-requires-clause-seat : goal.join-requires-clause-seat
join-requires-clause-seat g c = (c.loop-next.invariant.at, c.loop-next.invariant.some)

pub join-requires-clause-other : goal.join-requires-clause-other
join-requires-clause-other g c =
    let s : PoolSeatState g.row.S.Denot = c.in-Some-pop.next in
    let of = all_popped (λ (x : PoolSeatState g.row.S.Denot). IsSeatOf c.args.pool x) c.loop-next.seats.items c.pop-in-loop-next.new.self.items s c.in-Some-pop.ensures.items c.loop-next.invariant.all in
    (ap (λ (x : PoolSeatState g.row.S.Denot). x.table) c.next.view_is ∙ of.1.table ∙ sym (ap (λ (x : PoolState). x.table) c.pool.view_is), c.next.invariant.slots, c.next.invariant.claim)

pub loop-next-preserved : goal.loop-next-preserved
loop-next-preserved g c =
    let i = c.loop-next.invariant in
    let s : PoolSeatState g.row.S.Denot = c.in-Some-pop.next in
    let p = c.in-Some-pop.ensures.items in
    let of = all_popped (λ (x : PoolSeatState g.row.S.Denot). IsSeatOf c.args.pool x) c.loop-next.seats.items c.pop-in-loop-next.new.self.items s p i.all in
    let count = length-append c.pop-in-loop-next.new.self.items (s ∷ []) in
    let me = c.join.ensures.1 in
    let view = c.next.view_is in
    record {
      at = c.join.ensures.0 ∙ i.at;
      parts = omega (arith, c.next.invariant.parts, i.parts, ap length p, ap (λ (m : Sat g.row.S.Denot). m.0.parts) me);
      some = omega (arith, i.some, ap (λ (m : Sat g.row.S.Denot). m.0.parts) me);
      claim = ap (λ (m : Sat g.row.S.Denot). m.0.claim) me ∙ i.claim;
      all = of.0;
      put = λ f. omega (arith, i.put f, ap (λ (m : Sat g.row.S.Denot). total f m.0.put) me, total-append f c.loop-next.seat.me.0.put c.next.inside.seat.me.0.put, ap (λ (x : PoolSeatState g.row.S.Denot). total f x.put) view, ap (total (λ (x : PoolSeatState g.row.S.Denot). total f x.put)) p, total-append (λ (x : PoolSeatState g.row.S.Denot). total f x.put) c.pop-in-loop-next.new.self.items (s ∷ []));
      taken = λ f. omega (arith, i.taken f, ap (λ (m : Sat g.row.S.Denot). total f m.0.taken) me, total-append f c.loop-next.seat.me.0.taken c.next.inside.seat.me.0.taken, ap (λ (x : PoolSeatState g.row.S.Denot). total f x.taken) view, ap (total (λ (x : PoolSeatState g.row.S.Denot). total f x.taken)) p, total-append (λ (x : PoolSeatState g.row.S.Denot). total f x.taken) c.pop-in-loop-next.new.self.items (s ∷ []));
    }

pub close-requires-clause-seat : goal.close-requires-clause-seat
close-requires-clause-seat g c =
    let i = c.loop-next.invariant in
    let none : length c.loop-next.seats.items ≡ 0 = grind (arith, common_steps) in
    let callers = ap (λ (x : PoolState). x.callers) c.pool.view_is in
    (i.at, omega (arith, i.parts, none, callers), i.claim)

pub returns-clause-balance : goal.returns-clause-balance
returns-clause-balance g c = λ f.
    let i = c.loop-next.invariant in
    let none : length c.loop-next.seats.items ≡ 0 = grind (arith, common_steps) in
    let put = total-none (λ (x : PoolSeatState g.row.S.Denot). total f x.put) c.loop-next.seats.items none in
    let taken = total-none (λ (x : PoolSeatState g.row.S.Denot). total f x.taken) c.loop-next.seats.items none in
    omega (arith, i.put f, i.taken f, put, taken, c.close.ensures.balance f, ap (total f) c.from_vec.ensures)
