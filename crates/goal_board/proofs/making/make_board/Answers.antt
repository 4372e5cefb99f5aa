use Rattle.std.proofs.Common.{arith, ◌≡◌, ◌+◌, ◌-◌, ◌*◌, ◌++◌, [], ◌∷◌, ℕ, length, map, ap, sym, ◌∙◌}
use Rattle.std.specs.List.{range_with_len}
use Rattle.std.proofs.lemmas.List.FromFn.{length-map-range_with_len}
use Rattle.goal_board.specs.Rule.{Sat}
use Rattle.goal_board.specs.Passes.{BoardState, PassState, new_pass}
use Rattle.goal_board.proofs.NewPasses.{less_one, pass_is, range_snoc, range_front, all_of}
use Rattle.goal_board.proofs.making.make_board.Goals as goal

pub push_reserved-requires : goal.push_reserved-requires
push_reserved-requires c =
    let i = c.loop-caller.invariant in
    let board : BoardState = record { table = c.in_ok-table.table.shared.table_id; terms = c.in_ok-table.table.shared.key } in
    omega (arith, i.room, ap length i.passes, length-map-range_with_len (new_pass board) 1 (c.loop-caller.caller - 1), c.loop-caller-test.true)

pub loop-caller-preserved : goal.loop-caller-preserved
loop-caller-preserved c =
    let i = c.loop-caller.invariant in
    let me = c.cut-seat.ensures.seat in
    let new = c.cut-seat.ensures.new in
    let terms = c.in_ok-table.ensures.terms in
    let board : BoardState = record { table = c.in_ok-table.table.shared.table_id; terms = c.in_ok-table.table.shared.key } in
    let goals : c.goals-goals.result ≡ board.terms.goals = c.goals-goals.ensures ∙ sym terms.2 in
    let pass = c.in_ok-pass_of.ensures ∙ pass_is board c.cut-seat.result.table_id c.cut-seat.result.me.0.terms c.goals-goals.result c.loop-caller.caller (new.0 ∙ i.at) (ap (λ (m : Sat). m.0.terms) new.1 ∙ i.terms) goals in
    let parts : c.cut-seat.new.seat.me.0.parts ≡ c.loop-caller.first.me.0.parts - 1 = ap (λ (m : Sat). m.0.parts) me.1 in
    record {
      at = me.0 ∙ i.at;
      slots = ap (λ (m : Sat). m.1) me.1 ∙ i.slots;
      terms = ap (λ (m : Sat). m.0.terms) me.1 ∙ i.terms;
      parts = omega (arith, parts, i.parts, c.loop-caller-test.true);
      made = omega (arith, ap (λ (m : Sat). m.0.made) me.1, i.made);
      caller = ap (λ (m : Sat). m.0.caller) me.1 ∙ i.caller;
      known = ap (λ (m : Sat). m.0.known) me.1 ∙ i.known;
      share = ap (λ (m : Sat). m.0.share) me.1 ∙ i.share;
      left = ap (λ (m : Sat). m.0.left) me.1 ∙ (λ k. i.left k - i.share k) ∙ less_one c.loop-caller.first.me.0.parts c.goals-goals.result (omega (arith, i.parts, c.loop-caller-test.true)) ∙ ap (λ (n : ℕ). n * c.goals-goals.result) (sym parts);
      passes = c.push_reserved.ensures.items ∙ ap (λ l. l ++ c.in_ok-pass_of.field-0 ∷ []) i.passes ∙ ap (λ (s : PassState). map (new_pass board) (range_with_len 1 (c.loop-caller.caller - 1)) ++ s ∷ []) pass
          ∙ range_snoc (new_pass board) 1 (c.loop-caller.caller - 1) c.loop-caller.caller (omega arith)
          ∙ ap (λ k. map (new_pass board) (range_with_len 1 k)) (let h : c.loop-caller.caller - 1 + 1 ≡ c.loop-caller.caller + 1 - 1 = omega arith in h);
      room = omega (arith, c.push_reserved.ensures.capacity, i.room);
    }

made_passes : (c : goal.In_ok-insert) → (let board : BoardState = record { table = c.in_ok-table.table.shared.table_id; terms = c.in_ok-table.table.shared.key } in c.insert.new.self.items ≡ map (new_pass board) (range_with_len 0 c.args.callers))
made_passes c =
    let i = c.loop-caller.invariant in
    let terms = c.in_ok-table.ensures.terms in
    let board : BoardState = record { table = c.in_ok-table.table.shared.table_id; terms = c.in_ok-table.table.shared.key } in
    let goals : c.goals-goals.result ≡ board.terms.goals = c.goals-goals.ensures ∙ sym terms.2 in
    let pass = c.in_ok-pass_of-2.ensures ∙ pass_is board c.loop-caller.first.table_id c.loop-caller.first.me.0.terms c.goals-goals.result 0 i.at i.terms goals in
    let last : c.args.callers ≡ c.loop-caller.caller - 1 + 1 = omega (arith, c.loop-caller-test.false, c.loop-caller.auto.caller, c.loop-caller.auto.caller-end, c.requires.some) in
    c.in_ok-insert.ensures.items ∙ ap (λ (s : PassState). s ∷ c.loop-caller.passes.items) pass ∙ ap (λ l. new_pass board 0 ∷ l) i.passes ∙ range_front (new_pass board) (c.loop-caller.caller - 1) c.args.callers last

pub invariant_of-result-2 : goal.invariant_of-result-2
invariant_of-result-2 c =
    let board : BoardState = record { table = c.in_ok-table.table.shared.table_id; terms = c.in_ok-table.table.shared.key } in
    let long = ap length (made_passes c) in
    let count = length-map-range_with_len (new_pass board) 0 c.args.callers in
    record {
      few = omega (arith, long, count);
      capacity = omega (arith, c.in_ok-insert.ensures.capacity, c.loop-caller.invariant.room);
      space_is = c.in_ok-space.ensures;
    }

pub returns-clause-passes : goal.returns-clause-passes
returns-clause-passes c = made_passes c

pub returns-clause-all : goal.returns-clause-all
returns-clause-all c =
    let terms = c.in_ok-table.ensures.terms in
    let board : BoardState = record { table = c.in_ok-table.table.shared.table_id; terms = c.in_ok-table.table.shared.key } in
    all_of board _ (made_passes c ∙ ap (λ k. map (new_pass board) (range_with_len 0 k)) (sym terms.3)) (sym terms.3) (c.goals-goals.ensures ∙ sym terms.2)
