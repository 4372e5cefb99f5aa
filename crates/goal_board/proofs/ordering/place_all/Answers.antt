use Rattle.std.proofs.Common.{arith, ◌≡◌, ◌<◌, ◌∷◌, length, Some, ap, sym, ◌∙◌, subst, All, length-set}
use Rattle.std.proofs.lemmas.List.Elements.{All-head, All-tail}
use Rattle.std.specs.Vec.Iter.{into_iter_items}
use Rattle.goal_board.specs.declared.pass.Posted.{Posted}
use Rattle.goal_board.specs.Ends.{placed}
use Rattle.goal_board.proofs.ordering.place_all.Goals as goal

pub index_mut-requires : goal.index_mut-requires
index_mut-requires c =
    let at = c.loop-post in
    let steps : into_iter_items at.post-iterator ≡ c.in-Some.post ∷ into_iter_items c.next.new.self = c.in-Some.ensures.steps.0 in
    let P = λ (p : Posted). p.entry.number < length at.places.items in
    omega (arith, All-head P c.in-Some.post (into_iter_items c.next.new.self) (subst (All P) steps at.invariant.numbers))

pub loop-post-preserved : goal.loop-post-preserved
loop-post-preserved c =
    let at = c.loop-post in
    let rest = into_iter_items c.next.new.self in
    let steps : into_iter_items at.post-iterator ≡ c.in-Some.post ∷ rest = c.in-Some.ensures.steps.0 in
    let P = λ (p : Posted). p.entry.number < length at.places.items in
    let left = All-tail P c.in-Some.post rest (subst (All P) steps at.invariant.numbers) in
    let same = length-set at.places.items c.in-Some.post.entry.number (Some c.in-Some.post) in
    record {
      long = omega (arith, at.invariant.long, c.in-Some.ensures.steps.1, ap length steps);
      numbers = λ k d lt. omega (arith, left k d lt, same);
      placed_are = sym (ap (placed at.places.items) steps) ∙ at.invariant.placed_are;
    }

pub loop-post-preserved-in-Some : goal.loop-post-preserved-in-Some
loop-post-preserved-in-Some c =
    let at = c.loop-post in
    let rest = into_iter_items c.next.new.self in
    let steps : into_iter_items at.post-iterator ≡ c.in-Some.post ∷ rest = c.in-Some.ensures.steps.0 in
    let P = λ (p : Posted). p.entry.number < length at.places.items in
    let left = All-tail P c.in-Some.post rest (subst (All P) steps at.invariant.numbers) in
    let same = length-set at.places.items c.in-Some.post.entry.number (Some c.in-Some.post) in
    record {
      long = omega (arith, at.invariant.long, c.in-Some.ensures.steps.1, ap length steps);
      numbers = λ k d lt. omega (arith, left k d lt, same);
      placed_are = sym (ap (placed at.places.items) steps) ∙ at.invariant.placed_are;
    }
