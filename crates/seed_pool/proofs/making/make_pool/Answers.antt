use Rattle.std.proofs.Common.{arith, [], ◌∷◌, All, length, length-append, ap, sym, ◌∙◌, subst}
use Rattle.std.proofs.lemmas.List.Elements.{All-push}
use Rattle.seed_pool.specs.Rule.{Sat}
use Rattle.seed_pool.specs.Seats.{PoolSeatState, IsSeatOf, IsNew}
use Rattle.seed_pool.specs.Inside.{pool_state}
use Rattle.seed_pool.proofs.NewSeats.{is_seat_of, is_new}
use Rattle.seed_pool.proofs.making.make_pool.Goals as goal

pub cut-seat-requires-clause-seat : goal.cut-seat-requires-clause-seat
cut-seat-requires-clause-seat g c = c.loop.invariant.at

pub cut-seat-requires-clause-parts : goal.cut-seat-requires-clause-parts
cut-seat-requires-clause-parts g c = omega (arith, c.loop.invariant.parts, c.loop-test.true)

pub seat_of-requires-clause-circuit : goal.seat_of-requires-clause-circuit
seat_of-requires-clause-circuit g c =
    (c.in_ok-table.table.shared.key, ap (λ (m : Sat g.row.S.Denot). m.0.terms) c.cut-seat.ensures.seat.1 ∙ c.loop.invariant.terms, c.in_ok-table.ensures.terms.0)

pub push_reserved-requires : goal.push_reserved-requires
push_reserved-requires g c = omega (arith, c.loop.invariant.room, c.loop.invariant.long, c.loop-test.true)

pub loop-preserved : goal.loop-preserved
loop-preserved g c =
    let i = c.loop.invariant in
    let me = c.cut-seat.ensures.first.1 in
    let seat = c.cut-seat.ensures.seat in
    let pool = pool_state c.in_ok-table.table.shared.table_id c.in_ok-table.table.shared.key in
    let s = c.seat_of.result in
    let items = c.push_reserved.ensures.items in
    record {
      at = c.cut-seat.ensures.first.0 ∙ i.at;
      slots = ap (λ (m : Sat g.row.S.Denot). m.1) me ∙ i.slots;
      parts = omega (arith, ap (λ (m : Sat g.row.S.Denot). m.0.parts) me, i.parts, c.loop-test.true);
      claim = ap (λ (m : Sat g.row.S.Denot). m.0.claim) me ∙ i.claim;
      put = ap (λ (m : Sat g.row.S.Denot). m.0.put) me ∙ i.put;
      taken = ap (λ (m : Sat g.row.S.Denot). m.0.taken) me ∙ i.taken;
      tried = ap (λ (m : Sat g.row.S.Denot). m.0.tried) me ∙ i.tried;
      terms = ap (λ (m : Sat g.row.S.Denot). m.0.terms) me ∙ i.terms;
      long = omega (arith, i.long, ap length items, length-append c.loop.seats.items (s ∷ []));
      room = omega (arith, i.room, c.push_reserved.ensures.capacity);
      all = subst (All (λ (s : PoolSeatState g.row.S.Denot). IsSeatOf pool s)) (sym items) (All-push (λ (s : PoolSeatState g.row.S.Denot). IsSeatOf pool s) c.loop.seats.items s i.all
          (is_seat_of pool c.cut-seat.result.table_id c.args.circuit.now c.cut-seat.result.me.0 s c.seat_of.ensures (seat.0 ∙ i.at) (sym c.in_ok-table.ensures.terms.0)));
      new = subst (All (λ (s : PoolSeatState g.row.S.Denot). IsNew s)) (sym items) (All-push (λ (s : PoolSeatState g.row.S.Denot). IsNew s) c.loop.seats.items s i.new
          (is_new c.cut-seat.result.table_id c.args.circuit.now c.cut-seat.result.me.0 s c.seat_of.ensures (ap (λ (m : Sat g.row.S.Denot). m.0.put) seat.1) (ap (λ (m : Sat g.row.S.Denot). m.0.taken) seat.1) (ap (λ (m : Sat g.row.S.Denot). m.0.tried) seat.1)));
    }

pub seat_of-requires-2-clause-one : goal.seat_of-requires-2-clause-one
seat_of-requires-2-clause-one g c = omega (arith, c.loop.invariant.parts, c.loop.invariant.long, c.loop-test.false, c.loop.auto, c.requires.some)

pub seat_of-requires-2-clause-idle : goal.seat_of-requires-2-clause-idle
seat_of-requires-2-clause-idle g c = (c.loop.invariant.slots, c.loop.invariant.claim)

pub seat_of-requires-2-clause-circuit : goal.seat_of-requires-2-clause-circuit
seat_of-requires-2-clause-circuit g c = (c.in_ok-table.table.shared.key, c.loop.invariant.terms, c.in_ok-table.ensures.terms.0)

pub push_reserved-requires-2 : goal.push_reserved-requires-2
push_reserved-requires-2 g c = omega (arith, c.loop.invariant.room, c.loop.invariant.long, c.loop.auto, c.requires.some)

pub returns-clause-seats : goal.returns-clause-seats
returns-clause-seats g c =
    let i = c.loop.invariant in
    let pool = pool_state c.in_ok-table.table.shared.table_id c.in_ok-table.table.shared.key in
    let s = c.seat_of-2.result in
    let items = c.push_reserved-2.ensures.items in
    record {
      of_pool = subst (All (λ (s : PoolSeatState g.row.S.Denot). IsSeatOf pool s)) (sym items) (All-push (λ (s : PoolSeatState g.row.S.Denot). IsSeatOf pool s) c.loop.seats.items s i.all
          (is_seat_of pool c.loop.first.table_id c.args.circuit.now c.loop.first.me.0 s c.seat_of-2.ensures i.at (sym c.in_ok-table.ensures.terms.0)));
      count = omega (arith, i.long, ap length items, length-append c.loop.seats.items (s ∷ []), c.loop-test.false, c.loop.auto, c.requires.some, c.in_ok-table.ensures.terms.1);
      room = sym c.in_ok-table.ensures.terms.1;
    }

pub returns-clause-new : goal.returns-clause-new
returns-clause-new g c =
    let i = c.loop.invariant in
    let s = c.seat_of-2.result in
    subst (All (λ (s : PoolSeatState g.row.S.Denot). IsNew s)) (sym c.push_reserved-2.ensures.items) (All-push (λ (s : PoolSeatState g.row.S.Denot). IsNew s) c.loop.seats.items s i.new
    (is_new c.loop.first.table_id c.args.circuit.now c.loop.first.me.0 s c.seat_of-2.ensures i.put i.taken i.tried))
