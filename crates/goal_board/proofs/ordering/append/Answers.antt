use Rattle.std.proofs.Common.{arith, ◌≡◌, ◌∷◌, ◌++◌, [], List, length, ap, sym, ◌∙◌, append_assoc, length-append}
use Rattle.std.specs.Vec.Iter.{into_iter_items}
use Rattle.goal_board.specs.declared.pass.Posted.{Posted}
use Rattle.goal_board.proofs.ordering.append.Goals as goal

pub push_reserved-requires : goal.push_reserved-requires
push_reserved-requires c =
    let at = c.loop-post in
    let steps : into_iter_items at.post-iterator ≡ c.in-Some.post ∷ into_iter_items c.next.new.self = c.in-Some.ensures.steps.0 in
    omega (
      arith,
      c.requires,
      at.invariant.capacity,
      ap length at.invariant.items,
      ap length steps,
      length-append at.all.items (into_iter_items at.post-iterator),
      length-append c.args.all.now.items c.args.posts.items,
    )

pub loop-post-preserved : goal.loop-post-preserved
loop-post-preserved c =
    let at = c.loop-post in
    let steps : into_iter_items at.post-iterator ≡ c.in-Some.post ∷ into_iter_items c.next.new.self = c.in-Some.ensures.steps.0 in
    record {
      long = omega (arith, at.invariant.long, c.in-Some.ensures.steps.1, ap length steps);
      items = ap (λ (l : List Posted). l ++ into_iter_items c.next.new.self) c.push_reserved.ensures.items ∙ append_assoc at.all.items (c.in-Some.post ∷ []) (into_iter_items c.next.new.self)
          ∙ ap (λ (l : List Posted). at.all.items ++ l) (sym steps) ∙ at.invariant.items;
      capacity = c.push_reserved.ensures.capacity ∙ at.invariant.capacity;
    }
