use Rattle.std.proofs.Common.{arith, ◌≡◌, ℕ, suc, ◌+◌, ◌*◌, ◌++◌, [], List, length, ap, sym, ◌∙◌, subst, suc-mul}
use Rattle.std.proofs.lemmas.Grind.{common_steps}
use Rattle.std.proofs.lemmas.List.{length-append, length_push}
use Rattle.goal_board.specs.declared.pass.Posted.{Posted}
use Rattle.goal_board.specs.Passes.{BoardState, PassState, IsPassOf}
use Rattle.goal_board.specs.Inside.{board_state}
use Rattle.goal_board.specs.Ends.{AreTaken}
use Rattle.goal_board.proofs.Taken.{OnePass, AreOne, one_pass, as_one, taken_first, taken_more, all_taken, next_differs, next_is_of, all_middle}
use Rattle.goal_board.proofs.gathering.hand_over.Goals as goal

-- so many passes and one more need so much room
more_room : (n m goals : ℕ) → m ≡ n + 1 → m * goals ≡ n * goals + goals
more_room n m goals e = ap (λ (k : ℕ). k * goals) (let h : m ≡ suc n = omega arith in h) ∙ suc-mul n goals

pub append-requires : goal.append-requires
append-requires c =
    let board : BoardState = board_state c.args.table.now.shared.table_id c.args.table.now.shared.key in
    let l = c.last.inside in
    let of = all_middle (IsPassOf board) c.args.passes.items c.pop.new.self.items [] c.in-Some.last c.in-Some.ensures.items c.requires.of_board in
    let o = one_pass board c.in-Some.last l.posts l.posted.items l.caller l.front l.seat.table_id l.seat.me c.last.view_is of c.last.invariant in
    let count = ap length c.in-Some.ensures.items ∙ length_push c.pop.new.self.items c.in-Some.last in
    let room = more_room (length c.pop.new.self.items) (length c.args.passes.items) c.args.goals count in
    omega (arith, room, o.few, c.requires.goals, c.requires.room.1, ap length c.requires.room.0)

pub loop-next-init : goal.loop-next-init
loop-next-init c =
    let board : BoardState = board_state c.args.table.now.shared.table_id c.args.table.now.shared.key in
    let l = c.last.inside in
    let x : PassState = c.in-Some.last in
    let left : List PassState = c.pop.new.self.items in
    let p = c.in-Some.ensures.items in
    let of = all_middle (IsPassOf board) c.args.passes.items left [] x p c.requires.of_board in
    let o = one_pass board x l.posts l.posted.items l.caller l.front l.seat.table_id l.seat.me c.last.view_is of c.last.invariant in
    let mine : OnePass board.terms c.args.goals x l.posts.items l.seat.me.0.caller l.seat.me.0.known = subst (λ (g : ℕ). OnePass board.terms g x l.posts.items l.seat.me.0.caller l.seat.me.0.known) (sym c.requires.goals) o in
    let count = ap length p ∙ length_push left x in
    let room = more_room (length left) (length c.args.passes.items) c.args.goals count in
    let items : c.append.new.all.items ≡ l.posts.items = c.append.ensures.items ∙ ap (λ (ps : List Posted). ps ++ l.posts.items) c.requires.room.0 in
    record {
      at = ap (λ (s : PassState). s.table) c.last.view_is ∙ of.table;
      slots = c.last.invariant.slots;
      live = omega (arith, c.last.invariant.parts);
      idle = c.last.invariant.idle;
      parts = omega (arith, c.last.invariant.parts, count);
      room = omega (arith, room, o.few, c.requires.goals, c.requires.room.1, ap length items, c.append.ensures.capacity);
      taken = subst (AreTaken board.terms c.args.goals c.args.passes.items left l.seat.me.0.caller l.seat.me.0.known) (sym items)
          (taken_first board.terms c.args.goals c.args.passes.items left x l.posts.items l.seat.me.0.caller l.seat.me.0.known p mine);
    }

pub append-requires-in-Some-pop : goal.append-requires-in-Some-pop
append-requires-in-Some-pop c =
    let board : BoardState = board_state c.args.table.now.shared.table_id c.args.table.now.shared.key in
    let i = c.loop-next.invariant in
    let x : PassState = c.in-Some-pop.next in
    let left : List PassState = c.pop-in-loop-next.new.self.items in
    let p = c.in-Some-pop.ensures.items in
    let l = c.next.inside in
    let of = next_is_of board board.terms c.args.goals c.args.passes.items c.loop-next.passes.items left c.loop-next.seat.me.0.caller c.loop-next.seat.me.0.known c.loop-next.all.items x i.taken p c.requires.of_board in
    let o = one_pass board x l.posts l.posted.items l.caller l.front l.seat.table_id l.seat.me c.next.view_is of c.next.invariant in
    let count = ap length p ∙ length_push left x in
    let room = more_room (length left) (length c.loop-next.passes.items) c.args.goals count in
    omega (arith, room, o.few, c.requires.goals, i.room)

pub both-seat-requires-clause-other : goal.both-seat-requires-clause-other
both-seat-requires-clause-other c =
    let board : BoardState = board_state c.args.table.now.shared.table_id c.args.table.now.shared.key in
    let i = c.loop-next.invariant in
    let n = c.next in
    let of = next_is_of board board.terms c.args.goals c.args.passes.items c.loop-next.passes.items c.pop-in-loop-next.new.self.items c.loop-next.seat.me.0.caller c.loop-next.seat.me.0.known c.loop-next.all.items
    c.in-Some-pop.next i.taken c.in-Some-pop.ensures.items c.requires.of_board in
    (ap (λ (s : PassState). s.table) n.view_is ∙ of.table, omega (arith, n.invariant.parts), n.invariant.slots, n.invariant.idle)

pub both-seat-requires-clause-apart : goal.both-seat-requires-clause-apart
both-seat-requires-clause-apart c =
    let i = c.loop-next.invariant in
    next_differs c.args.table.now.shared.key c.args.goals c.args.passes.items c.loop-next.passes.items c.pop-in-loop-next.new.self.items c.loop-next.seat.me.0.caller c.loop-next.seat.me.0.known c.loop-next.all.items
    c.in-Some-pop.next c.next.inside.seat.me.0.caller i.taken c.in-Some-pop.ensures.items c.requires.distinct (sym (ap (λ (s : PassState). s.caller) c.next.view_is))

pub loop-next-preserved : goal.loop-next-preserved
loop-next-preserved c =
    let board : BoardState = board_state c.args.table.now.shared.table_id c.args.table.now.shared.key in
    let t = board.terms in
    let i = c.loop-next.invariant in
    let x : PassState = c.in-Some-pop.next in
    let left : List PassState = c.pop-in-loop-next.new.self.items in
    let p = c.in-Some-pop.ensures.items in
    let l = c.next.inside in
    let old = c.loop-next.seat.me.0 in
    let of = next_is_of board t c.args.goals c.args.passes.items c.loop-next.passes.items left old.caller old.known c.loop-next.all.items x i.taken p c.requires.of_board in
    let o = one_pass board x l.posts l.posted.items l.caller l.front l.seat.table_id l.seat.me c.next.view_is of c.next.invariant in
    let mine : OnePass t c.args.goals x l.posts.items l.seat.me.0.caller l.seat.me.0.known = subst (λ (g : ℕ). OnePass t g x l.posts.items l.seat.me.0.caller l.seat.me.0.known) (sym c.requires.goals) o in
    let one : AreOne old l.seat.me.0 c.both-seat.result.me = as_one old l.seat.me.0 c.both-seat.result.me i.idle c.next.invariant.idle c.both-seat.ensures.me in
    let count = ap length p ∙ length_push left x in
    let room = more_room (length left) (length c.loop-next.passes.items) c.args.goals count in
    let items = c.append-in-Some-pop.ensures.items in
    record {
      at = c.both-seat.ensures.table;
      slots = one.slots;
      live = omega (arith, one.parts, i.live);
      idle = one.idle;
      parts = omega (arith, one.parts, c.next.invariant.parts, i.parts, count);
      room = omega (arith, room, o.few, c.requires.goals, i.room, ap length items, length-append c.loop-next.all.items l.posts.items, c.append-in-Some-pop.ensures.capacity);
      taken = subst (AreTaken t c.args.goals c.args.passes.items left c.both-seat.result.me.0.caller c.both-seat.result.me.0.known) (sym items)
          (taken_more t c.args.goals c.args.passes.items c.loop-next.passes.items left old.caller old.known c.loop-next.all.items x l.posts.items l.seat.me.0.caller l.seat.me.0.known c.both-seat.result.me.0.caller c.both-seat.result.me.0.known
          i.taken p mine one.both one.caller);
    }

pub loop-next-smaller : goal.loop-next-smaller
loop-next-smaller c = omega (arith, ap length c.in-Some-pop.ensures.items, length_push c.pop-in-loop-next.new.self.items c.in-Some-pop.next)

pub returns-clause-seat : goal.returns-clause-seat
returns-clause-seat c =
    let i = c.loop-next.invariant in
    let none : length c.loop-next.passes.items ≡ 0 = grind (arith, common_steps) in
    (i.at, omega (arith, i.parts, none), i.idle)

pub returns-clause-posts : goal.returns-clause-posts
returns-clause-posts c =
    let i = c.loop-next.invariant in
    let none : length c.loop-next.passes.items ≡ 0 = grind (arith, common_steps) in
    all_taken c.args.table.now.shared.key c.args.goals c.args.passes.items c.loop-next.passes.items c.loop-next.seat.me.0.caller c.loop-next.seat.me.0.known c.loop-next.all.items i.taken none
