use Rattle.std.proofs.Common.{arith, ◌≡◌, ◌∷◌, ◌++◌, [], List, length, refl, ap, subst, ◌∙◌, length-append}
use Rattle.std.specs.Vec.Iter.{into_iter_items}
use Rattle.goal_board.specs.Passes.{PassState}
use Rattle.board_rows.proofs.Listed.{moved_back}
use Rattle.board_rows.proofs.post_rows.put_all_back.Goals as goal

nothing_left : {X : Type 0} (l : List X) → length l ≡ 0 → l ≡ []
nothing_left [] h = refl
nothing_left (x ∷ xs) h = absurd (omega arith)

pub put_back-requires : goal.put_back-requires
put_back-requires c =
    let at = c.loop-pass in
    let steps : into_iter_items at.pass-iterator ≡ c.in-Some.pass ∷ into_iter_items c.next.new.self = c.in-Some.ensures.steps.0 in
    omega (
      arith,
      c.requires,
      at.invariant.room,
      ap length at.invariant.passes,
      ap length steps,
      length-append at.passes.passes (into_iter_items at.pass-iterator),
      length-append c.args.passes.now.passes c.args.back.items,
    )

pub loop-pass-preserved : goal.loop-pass-preserved
loop-pass-preserved c =
    let at = c.loop-pass in
    let steps : into_iter_items at.pass-iterator ≡ c.in-Some.pass ∷ into_iter_items c.next.new.self = c.in-Some.ensures.steps.0 in
    record {
      long = omega (arith, at.invariant.long, c.in-Some.ensures.steps.1, ap length steps);
      passes = moved_back (λ (l : List PassState). l ≡ c.args.passes.now.passes ++ c.args.back.items) c.put_back.new.self.passes at.passes.passes (into_iter_items c.next.new.self) c.in-Some.pass c.put_back.ensures.passes
          (subst (λ l. at.passes.passes ++ l ≡ c.args.passes.now.passes ++ c.args.back.items) steps at.invariant.passes);
      room = c.put_back.ensures.same.0 ∙ at.invariant.room;
      goals = c.put_back.ensures.same.1 ∙ at.invariant.goals;
    }
