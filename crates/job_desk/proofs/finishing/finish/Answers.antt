use Rattle.std.proofs.Common.{arith, ◌≡◌, ℕ, ◌+◌, ◌<◌, [], ◌∷◌, length, get_or, Vec, Global, Some, ap, sym, ◌∙◌, length-append, length-set}
use Rattle.std.proofs.lemmas.Grind.{common_steps}
use Rattle.std.proofs.lemmas.List.{get_or-map}
use Rattle.std.proofs.lemmas.Option.{slice_get-get_or}
use Rattle.job_desk.specs.Draws.{draws_of}
use Rattle.job_desk.specs.Inside.{number_lists}
use Rattle.job_desk.specs.Seats.{JobDeskState, JobSeatState, JobSeatsState}
use Rattle.job_desk.proofs.Sums.{total-append}
use Rattle.job_desk.proofs.Ends.{taken_off, last_of, rest_of_popped, left_after, answered_after, inside_after, total_after, total_empty, times_listed, once_each}
use Rattle.job_desk.proofs.finishing.finish.Goals as goal

pub unreachable-requires : goal.unreachable-requires
unreachable-requires c =
    let callers = ap (λ (d : JobDeskState). d.callers) c.desk.view_is in
    let seats = ap length (ap (λ (s : JobSeatsState). s.seats) c.seats.view_is) in
    let some : 0 < length c.seats.inside.seats.items = omega (arith, c.desk.invariant.some, c.requires.all.count) in
    grind (arith, common_steps)

pub loop-next-init : goal.loop-next-init
loop-next-init c =
    let all = c.requires.all in
    let x = c.in-Some.last in
    let n : ℕ = length c.pop.new.self.items in
    let is = ap (λ (s : JobSeatsState). s.seats) c.seats.view_is in
    let p = sym is ∙ c.in-Some.ensures.items in
    let long = ap length p in
    let count = length-append c.pop.new.self.items (x ∷ []) in
    let inside : n < length c.args.seats.seats = omega arith in
    let here : (d : JobSeatState) → get_or c.args.seats.seats n d ≡ x = λ d. last_of _ c.pop.new.self.items x d p in
    let t = taken_off c.args.desk x c.last.inside.caller c.last.inside.numbers c.last.inside.seat.table_id c.last.inside.seat.me c.last.view_is (sym (ap (λ (s : JobSeatState). s.desk) (here x)) ∙ all.of_desk n x inside) c.last.invariant in
    let lists : length c.seats.inside.lists.items ≡ c.args.desk.callers = ap (λ (s : JobSeatsState). s.room) c.seats.view_is ∙ all.room in
    let room : c.last.inside.caller < length c.seats.inside.lists.items = omega (arith, t.inside) in
    let empty = c.seats.invariant.empty in
    record {
      at = t.table ∙ sym (ap (λ (d : JobDeskState). d.table) c.desk.view_is);
      parts = omega (arith, t.parts, all.count);
      live = omega (arith, t.parts);
      some = inside;
      same = λ k d lt. rest_of_popped _ c.pop.new.self.items x d k p lt;
      lists = length-set _ _ _ ∙ lists;
      left = left_after c.args.seats.seats all.distinct n x c.last.inside.caller c.last.inside.numbers c.seats.inside.lists.items inside here t.caller
          (λ k d e lt lt'. empty (get_or c.args.seats.seats k d).caller e (omega arith));
      answered = answered_after c.args.seats.seats all.distinct n x c.last.inside.caller c.last.inside.numbers c.seats.inside.lists.items inside here t.caller room t.answered (λ k d e lt lt'. absurd (omega arith));
      inside = inside_after c.args.seats.seats all.distinct n x c.last.inside.caller c.last.inside.numbers c.seats.inside.lists.items here t.caller t.inside (λ k d lt lt'. absurd (omega arith));
      drawn = λ y lt. omega (arith, t.below y lt, total_after c.args.seats.seats all.distinct n x c.last.inside.caller c.last.inside.numbers c.seats.inside.lists.items y c.last.inside.numbers room (empty _ _ room), total_empty y c.seats.inside.lists.items empty);
      done = λ h. let o = h n x inside in let q = t.over o.0 (sym (ap (λ (s : JobSeatState). s.over) (here x)) ∙ o.1) in (o.0, q.0, q.1);
    }

pub index_mut-requires-in-Some-pop : goal.index_mut-requires-in-Some-pop
index_mut-requires-in-Some-pop c =
    let i = c.loop-next.invariant in
    let x = c.in-Some-pop.next in
    let p = c.in-Some-pop.ensures.items in
    let n : ℕ = length c.pop-in-loop-next.new.self.items in
    let long = ap length p in
    let count = length-append c.pop-in-loop-next.new.self.items (x ∷ []) in
    let here : get_or c.args.seats.seats n x ≡ x = sym (i.same n x (omega arith)) ∙ last_of c.loop-next.seats.items c.pop-in-loop-next.new.self.items x x p in
    let t = taken_off c.args.desk x c.next.inside.caller c.next.inside.numbers c.next.inside.seat.table_id c.next.inside.seat.me c.next.view_is
    (sym (ap (λ (s : JobSeatState). s.desk) here) ∙ c.requires.all.of_desk n x (omega (arith, i.some))) c.next.invariant in
    omega (arith, t.inside, i.lists)

pub join-requires-clause-other : goal.join-requires-clause-other
join-requires-clause-other c =
    let i = c.loop-next.invariant in
    let x = c.in-Some-pop.next in
    let p = c.in-Some-pop.ensures.items in
    let n : ℕ = length c.pop-in-loop-next.new.self.items in
    let long = ap length p in
    let count = length-append c.pop-in-loop-next.new.self.items (x ∷ []) in
    let here : get_or c.args.seats.seats n x ≡ x = sym (i.same n x (omega arith)) ∙ last_of c.loop-next.seats.items c.pop-in-loop-next.new.self.items x x p in
    let t = taken_off c.args.desk x c.next.inside.caller c.next.inside.numbers c.next.inside.seat.table_id c.next.inside.seat.me c.next.view_is
    (sym (ap (λ (s : JobSeatState). s.desk) here) ∙ c.requires.all.of_desk n x (omega (arith, i.some))) c.next.invariant in
    (t.table ∙ sym (ap (λ (d : JobDeskState). d.table) c.desk.view_is), c.next.invariant.slots)

pub loop-next-preserved : goal.loop-next-preserved
loop-next-preserved c =
    let i = c.loop-next.invariant in
    let all = c.requires.all in
    let seats = c.args.seats.seats in
    let x = c.in-Some-pop.next in
    let p = c.in-Some-pop.ensures.items in
    let n : ℕ = length c.pop-in-loop-next.new.self.items in
    let long = ap length p in
    let count = length-append c.pop-in-loop-next.new.self.items (x ∷ []) in
    let inside : n < length c.args.seats.seats = omega (arith, i.some) in
    let here : (d : JobSeatState) → get_or c.args.seats.seats n d ≡ x = λ d. sym (i.same n d (omega arith)) ∙ last_of c.loop-next.seats.items c.pop-in-loop-next.new.self.items x d p in
    let by = c.next.inside.caller in let numbers = c.next.inside.numbers in let lists = c.loop-next.lists.items in
    let t = taken_off c.args.desk x by numbers c.next.inside.seat.table_id c.next.inside.seat.me c.next.view_is (sym (ap (λ (s : JobSeatState). s.desk) (here x)) ∙ all.of_desk n x inside) c.next.invariant in
    let room : c.next.inside.caller < length c.loop-next.lists.items = omega (arith, t.inside, i.lists) in
    let mine = ap (λ (s : JobSeatState). s.caller) (here x) in
    let empty : (get_or c.loop-next.lists.items c.next.inside.caller c.next.inside.numbers).items ≡ []
    = ap (λ (k : ℕ). (get_or c.loop-next.lists.items k c.next.inside.numbers).items) (sym t.caller ∙ sym mine) ∙ i.left n x numbers (omega arith) (omega (arith, t.inside, t.caller)) in
    let parts = ap (λ m. m.0.parts) c.join.ensures.1 in
    let drawn = ap (λ m. m.0.drawn) c.join.ensures.1 in
    let more : (y : ℕ) → draws_of y c.join.new.seat.me.0.drawn ≡ draws_of y c.loop-next.seat.me.0.drawn + draws_of y c.next.inside.seat.me.0.drawn
    = λ y. ap (draws_of y) drawn ∙ total-append _ c.loop-next.seat.me.0.drawn c.next.inside.seat.me.0.drawn in
    record {
      at = c.join.ensures.0 ∙ i.at;
      parts = omega (arith, t.parts, i.parts);
      live = omega (arith, i.live);
      some = inside;
      same = λ k d lt. rest_of_popped c.loop-next.seats.items c.pop-in-loop-next.new.self.items x d k p lt ∙ i.same k d (omega arith);
      lists = length-set _ _ _ ∙ i.lists;
      left = left_after seats all.distinct n x by numbers lists inside here t.caller (λ k d e lt. i.left k d e (omega arith));
      answered = answered_after seats all.distinct n x by numbers lists inside here t.caller room t.answered (λ k d e lt. i.answered k d e (omega arith));
      inside = inside_after seats all.distinct n x by numbers lists here t.caller t.inside (λ k d lt. i.inside k d (omega arith));
      drawn = λ y lt. omega (arith, more y, t.below y lt, i.drawn y lt, total_after seats all.distinct n x by numbers lists y numbers room empty);
      done = λ h. let o = i.done h in (o.0, o.1, omega (arith, o.2, more o.0));
    }

pub returns-clause-answered : goal.returns-clause-answered
returns-clause-answered c = λ k d lt.
    let i = c.loop-next.invariant in
    let none : length c.loop-next.seats.items ≡ 0 = grind (arith, common_steps) in
    let e = c.last.inside.numbers in
    let at : ℕ = (get_or c.args.seats.seats k d).caller in
    let room : at < length c.loop-next.lists.items = omega (arith, i.inside k d (omega arith) lt, i.lists) in
    let long = Rattle.std.proofs.lemmas.List.length-map c.loop-next.lists.items (λ (v : Vec ℕ Global). v.items) in
    slice_get-get_or (number_lists c.loop-next.lists.items) at [] (omega arith)
    ∙ ap Some (get_or-map (λ (v : Vec ℕ Global). v.items) c.loop-next.lists.items at e [] room ∙ i.answered k d e (omega arith) lt)

pub returns-clause-once : goal.returns-clause-once
returns-clause-once c = λ h x lt.
    let i = c.loop-next.invariant in let all = c.close.ensures in let o = i.done h in
    times_listed x c.loop-next.lists.items ∙ sym (i.drawn x lt) ∙ once_each all.0 o.0 x c.args.desk.jobs c.loop-next.seat.me.0.drawn all.1 o.1 o.2 lt
