use Rattle.std.proofs.Common.{rules, arith, ◌≡◌, List, [], ◌∷◌, ◌++◌, length, map, get_or, drop, Option, None, Some, ap, sym, refl, ◌∙◌, subst, append_assoc}
use Rattle.std.proofs.lemmas.List.{length-map, length_push}
use Rattle.std.proofs.lemmas.Option.{none-some}
use Rattle.std.specs.Vec.Iter.{into_iter_items}
use Rattle.board_core.specs.declared.entry.Entry.{Entry}
use Rattle.inv_cert.specs.Evidences.{Evidence}
use Rattle.goal_board.specs.declared.pass.Posted.{Posted}
use Rattle.goal_board.proofs.Numbers.{same_somes}
use Rattle.goal_board.proofs.ordering.taken_apart.Goals as goal

-- the first of these places is full, and so are the others
full_first : (o : Option Posted) (places : List (Option Posted)) (ps : List Posted) → o ∷ places ≡ map (λ (p : Posted). Some p) ps → (p : Posted) × (o ≡ Some p)
full_first o places [] e = absurd (omega (arith, ap length e))
full_first o places (p ∷ ps) e = (p, ap (λ (l : List (Option Posted)). get_or l 0 None) e)

rest_full : (o : Option Posted) (places : List (Option Posted)) (ps : List Posted) → o ∷ places ≡ map (λ (p : Posted). Some p) ps → (rest : List Posted) × (places ≡ map (λ (p : Posted). Some p) rest)
rest_full o places [] e = absurd (omega (arith, ap length e))
rest_full o places (p ∷ ps) e = (ps, ap (λ (l : List (Option Posted)). drop 1 l) e)

nothing_left : (l : List Posted) → length l ≡ 0 → l ≡ []
nothing_left [] e = refl
nothing_left (x ∷ xs) e = absurd (omega (arith, e))

no_more : {A : Type 0} (xs : List A) → xs ++ [] ≡ xs
no_more [] = refl
no_more (x ∷ xs) = ap (λ l. x ∷ l) (no_more xs)

pub loop-place-init : goal.loop-place-init
loop-place-init c =
    let gives = c.into_iter-place-iterator.ensures.into_iter_gives in
    let is : into_iter_items c.into_iter-place-iterator.result ≡ c.args.places.items = cc in
    let none = c.requires.none in
    record {
      long = search rules;
      left = (c.requires.full.0, is ∙ c.requires.full.1);
      history = λ rest r sorted s. ap (λ (l : List Entry). l ++ map (λ (p : Posted). p.entry) rest) none.0 ∙ ap (map (λ (p : Posted). p.entry)) (same_somes rest sorted (sym r ∙ is ∙ s));
      evidence = λ rest r sorted s. ap (λ (l : List Evidence). l ++ map (λ (p : Posted). p.evidence) rest) none.1 ∙ ap (map (λ (p : Posted). p.evidence)) (same_somes rest sorted (sym r ∙ is ∙ s));
      room = (omega (arith, c.requires.room.0, ap length none.0, ap length is), omega (arith, c.requires.room.1, ap length none.1, ap length is));
    }

pub unreachable-requires : goal.unreachable-requires
unreachable-requires c =
    let left = c.loop-place.invariant.left in
    let steps : into_iter_items c.loop-place.place-iterator ≡ c.in-Some.place ∷ into_iter_items c.next.new.self = c.in-Some.ensures.steps.0 in
    let full = full_first c.in-Some.place (into_iter_items c.next.new.self) left.0 (sym steps ∙ left.1) in
    none-some full.0 (sym c.in_default.is ∙ full.1)

pub loop-place-preserved : goal.loop-place-preserved
loop-place-preserved c =
    let at = c.loop-place in
    let i = at.invariant in
    let post : Posted = c.in-Some-place.post in
    let others : List (Option Posted) = into_iter_items c.next.new.self in
    let steps : into_iter_items at.place-iterator ≡ c.in-Some.place ∷ others = c.in-Some.ensures.steps.0 in
    let is : c.in-Some.place ≡ Some post = c.in-Some-place.is in
    let entries = c.push_reserved.ensures.items in
    let evidences = c.push_reserved-in-loop-place.ensures.items in
    record {
      long = omega (arith, i.long, c.in-Some.ensures.steps.1, ap length steps);
      left = rest_full c.in-Some.place others i.left.0 (sym steps ∙ i.left.1);
      history = λ rest e sorted s.
          let all : into_iter_items at.place-iterator ≡ map (λ (p : Posted). Some p) (post ∷ rest) = steps ∙ (λ k. is k ∷ e k) in
          ap (λ (l : List Entry). l ++ map (λ (p : Posted). p.entry) rest) entries ∙ append_assoc at.history.items (post.entry ∷ []) (map (λ (p : Posted). p.entry) rest) ∙ i.history (post ∷ rest) all sorted s;
      evidence = λ rest e sorted s.
          let all : into_iter_items at.place-iterator ≡ map (λ (p : Posted). Some p) (post ∷ rest) = steps ∙ (λ k. is k ∷ e k) in
          ap (λ (l : List Evidence). l ++ map (λ (p : Posted). p.evidence) rest) evidences ∙ append_assoc at.evidence.items (post.evidence ∷ []) (map (λ (p : Posted). p.evidence) rest) ∙ i.evidence (post ∷ rest) all sorted s;
      room = (
        omega (arith, i.room.0, ap length entries, length_push at.history.items post.entry, ap length steps, c.push_reserved.ensures.capacity),
        omega (arith, i.room.1, ap length evidences, length_push at.evidence.items post.evidence, ap length steps, c.push_reserved-in-loop-place.ensures.capacity),
      );
    }

pub returns : goal.returns
returns c = λ sorted s.
    let at = c.loop-place in
    let i = at.invariant in
    let rest : List Posted = i.left.0 in
    let none : length rest ≡ 0 = omega (arith, c.in-None.ensures.steps.0, i.long, ap length i.left.1, length-map rest (λ (p : Posted). Some p)) in
    let empty : rest ≡ [] = nothing_left rest none in
    let h = subst (λ (l : List Posted). at.history.items ++ map (λ (p : Posted). p.entry) l ≡ map (λ (p : Posted). p.entry) sorted) empty (i.history rest i.left.1 sorted s) in
    let v = subst (λ (l : List Posted). at.evidence.items ++ map (λ (p : Posted). p.evidence) l ≡ map (λ (p : Posted). p.evidence) sorted) empty (i.evidence rest i.left.1 sorted s) in
    (sym (no_more at.history.items) ∙ h, sym (no_more at.evidence.items) ∙ v)
