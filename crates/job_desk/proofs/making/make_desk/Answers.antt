use Rattle.std.proofs.Common.{arith, ◌≡◌, ◌+◌, ◌-◌, ◌++◌, [], ◌∷◌, length, map, ap, sym, ◌∙◌}
use Rattle.std.specs.List.{range_with_len}
use Rattle.std.proofs.lemmas.List.FromFn.{length-map-range_with_len}
use Rattle.job_desk.specs.Seats.{JobDeskState, JobSeatState, new_seat}
use Rattle.job_desk.specs.Inside.{desk_state}
use Rattle.job_desk.proofs.Ends.{seat_is, range_snoc, range_front, all_of}
use Rattle.job_desk.proofs.making.make_desk.Goals as goal

pub push_reserved-requires : goal.push_reserved-requires
push_reserved-requires c =
    let i = c.loop-caller.invariant in
    omega (arith, i.room, ap length i.seats, length-map-range_with_len (new_seat (desk_state c.in_ok-table.table.shared.table_id c.in_ok-table.table.shared.key)) 1 (c.loop-caller.caller - 1))

pub loop-caller-preserved : goal.loop-caller-preserved
loop-caller-preserved c =
    let i = c.loop-caller.invariant in
    let me = c.cut-seat.ensures.first.1 in
    let desk : JobDeskState = desk_state c.in_ok-table.table.shared.table_id c.in_ok-table.table.shared.key in
    let seat = c.cut-seat.ensures.seat in
    let key = c.in_ok-table.ensures.table in
    let new = c.in_ok-seat_of.ensures ∙ seat_is desk c.cut-seat.result.table_id c.cut-seat.result.me.0 c.loop-caller.caller (seat.0 ∙ i.at)
    (ap (λ m. m.0.jobs) seat.1 ∙ i.jobs ∙ sym key.2) (ap (λ m. m.0.callers) seat.1 ∙ i.callers ∙ sym key.3) (ap (λ m. m.0.caller) seat.1 ∙ i.made) (ap (λ m. m.0.over) seat.1) in
    record {
      at = c.cut-seat.ensures.first.0 ∙ i.at;
      slots = ap (λ m. m.1) me ∙ i.slots;
      parts = omega (arith, ap (λ m. m.0.parts) me, i.parts);
      spare = omega (arith, ap (λ m. m.0.spare) me, i.spare);
      made = omega (arith, ap (λ m. m.0.made) me, i.made);
      caller = ap (λ m. m.0.caller) me ∙ i.caller;
      drawn = ap (λ m. m.0.drawn) me ∙ i.drawn;
      over = ap (λ m. m.0.over) me ∙ i.over;
      jobs = ap (λ m. m.0.jobs) me ∙ i.jobs;
      callers = ap (λ m. m.0.callers) me ∙ i.callers;
      seats = c.push_reserved.ensures.items ∙ ap (λ l. l ++ c.in_ok-seat_of.field-0 ∷ []) i.seats ∙ ap (λ (s : JobSeatState). map (new_seat desk) (range_with_len 1 (c.loop-caller.caller - 1)) ++ s ∷ []) new
          ∙ range_snoc (new_seat desk) 1 (c.loop-caller.caller - 1) c.loop-caller.caller (omega arith)
          ∙ ap (λ k. map (new_seat desk) (range_with_len 1 k)) (let h : c.loop-caller.caller - 1 + 1 ≡ c.loop-caller.caller + 1 - 1 = omega arith in h);
      room = omega (arith, c.push_reserved.ensures.capacity, i.room);
    }

made_seats : (c : goal.In_ok-insert) → c.insert.new.self.items ≡ map (new_seat (desk_state c.in_ok-table.table.shared.table_id c.in_ok-table.table.shared.key)) (range_with_len 0 c.args.callers)
made_seats c =
    let i = c.loop-caller.invariant in
    let desk : JobDeskState = desk_state c.in_ok-table.table.shared.table_id c.in_ok-table.table.shared.key in
    let key = c.in_ok-table.ensures.table in
    let new = c.in_ok-seat_of-2.ensures ∙ seat_is desk c.loop-caller.first.table_id c.loop-caller.first.me.0 0 i.at (i.jobs ∙ sym key.2) (i.callers ∙ sym key.3) i.caller i.over in
    let last : c.args.callers ≡ c.loop-caller.caller - 1 + 1 = omega (arith, c.loop-caller-test.false, c.loop-caller.auto.caller, c.loop-caller.auto.caller-end, c.requires.some) in
    c.in_ok-insert.ensures.items ∙ ap (λ (s : JobSeatState). s ∷ c.loop-caller.seats.items) new ∙ ap (λ l. new_seat desk 0 ∷ l) i.seats ∙ range_front (new_seat desk) (c.loop-caller.caller - 1) c.args.callers last

pub invariant_of-result-2 : goal.invariant_of-result-2
invariant_of-result-2 c =
    let long = ap length (made_seats c) in
    let count = length-map-range_with_len (new_seat (desk_state c.in_ok-table.table.shared.table_id c.in_ok-table.table.shared.key)) 0 c.args.callers in
    let lists = c.in_ok-lists.ensures.len in
    record {
      few = omega arith;
      capacity = omega (arith, c.in_ok-insert.ensures.capacity, c.loop-caller.invariant.room);
      number = omega (arith, c.requires.few);
      empty = c.in_ok-lists.ensures.empty;
    }

pub returns-clause-seats : goal.returns-clause-seats
returns-clause-seats c = made_seats c

pub returns-clause-all : goal.returns-clause-all
returns-clause-all c =
    let key = c.in_ok-table.ensures.table in
    let desk : JobDeskState = desk_state c.in_ok-table.table.shared.table_id c.in_ok-table.table.shared.key in
    all_of desk _ (made_seats c ∙ ap (λ k. map (new_seat desk) (range_with_len 0 k)) (sym key.3)) (c.in_ok-lists.ensures.len ∙ sym key.3)
