use Rattle.std.proofs.Common.{arith, ◌≡◌, ◌∷◌, ◌++◌, [], List, length, refl, ap, subst, ◌∙◌, length-append}
use Rattle.std.specs.Vec.Iter.{into_iter_items}
use Rattle.job_desk.specs.Seats.{JobSeatState}
use Rattle.board_rows.proofs.Listed.{moved_back}
use Rattle.board_rows.proofs.desk_rows.put_all_back.Goals as goal

nothing_left : {X : Type 0} (l : List X) → length l ≡ 0 → l ≡ []
nothing_left [] h = refl
nothing_left (x ∷ xs) h = absurd (omega arith)

pub put_back-requires : goal.put_back-requires
put_back-requires c =
    let at = c.loop-seat in
    let steps : into_iter_items at.seat-iterator ≡ c.in-Some.seat ∷ into_iter_items c.next.new.self = c.in-Some.ensures.steps.0 in
    omega (
      arith,
      c.requires,
      at.invariant.room,
      ap length at.invariant.seats,
      ap length steps,
      length-append at.seats.seats (into_iter_items at.seat-iterator),
      length-append c.args.seats.now.seats c.args.back.items,
    )

pub loop-seat-preserved : goal.loop-seat-preserved
loop-seat-preserved c =
    let at = c.loop-seat in
    let steps : into_iter_items at.seat-iterator ≡ c.in-Some.seat ∷ into_iter_items c.next.new.self = c.in-Some.ensures.steps.0 in
    record {
      long = omega (arith, at.invariant.long, c.in-Some.ensures.steps.1, ap length steps);
      seats = moved_back (λ (l : List JobSeatState). l ≡ c.args.seats.now.seats ++ c.args.back.items) c.put_back.new.self.seats at.seats.seats (into_iter_items c.next.new.self) c.in-Some.seat c.put_back.ensures.seats
          (subst (λ l. at.seats.seats ++ l ≡ c.args.seats.now.seats ++ c.args.back.items) steps at.invariant.seats);
      room = c.put_back.ensures.room ∙ at.invariant.room;
    }
