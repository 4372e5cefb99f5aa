use Rattle.std.proofs.Common.{arith, ◌≡◌, ℕ, List, length, get_or, replicate, Option, None, ap, ◌∙◌}
use Rattle.std.proofs.lemmas.List.Elements.{Contains-get_or}
use Rattle.goal_board.specs.declared.pass.Posted.{Posted}
use Rattle.goal_board.specs.Ends.{placed}
use Rattle.goal_board.proofs.Sums.{length-replicate}
use Rattle.goal_board.proofs.Numbers.{numbers_inside, placed_in_order, length-placed}
use Rattle.goal_board.proofs.ordering.in_order.Goals as goal

pub place_all-requires : goal.place_all-requires
place_all-requires c = λ k d lt.
    let ps : List Posted = c.args.posts.items in
    let count : c.len.result ≡ length ps = c.len.ensures ∙ c.args.posts.ok.0 in
    let long : length c.add_empty.new.places.items ≡ length ps = ap length c.add_empty.ensures ∙ length-replicate {A = Option Posted} None c.len.result ∙ count in
    omega (arith, long, numbers_inside ps (get_or ps k d) c.requires.numbers (Contains-get_or ps k d lt))

places_are : (ps : List Posted) (n : ℕ) (empty new : List (Option Posted)) → n ≡ length ps → empty ≡ replicate n None → new ≡ placed empty ps → new ≡ placed (replicate (length ps) None) ps
places_are ps n empty new count none is = is ∙ ap (λ (l : List (Option Posted)). placed l ps) (none ∙ ap (λ (k : ℕ). replicate {A = Option Posted} k None) count)

pub taken_apart-requires-clause-full : goal.taken_apart-requires-clause-full
taken_apart-requires-clause-full c = let s = placed_in_order c.args.posts.items c.requires.numbers in (s.0, places_are c.args.posts.items c.len.result c.add_empty.new.places.items c.place_all.new.places.items (c.len.ensures ∙ c.args.posts.ok.0) c.add_empty.ensures c.place_all.ensures ∙ s.2)

pub taken_apart-requires-clause-room : goal.taken_apart-requires-clause-room
taken_apart-requires-clause-room c =
    let ps : List Posted = c.args.posts.items in
    let long : length c.place_all.new.places.items ≡ length ps = ap length (places_are c.args.posts.items c.len.result c.add_empty.new.places.items c.place_all.new.places.items (c.len.ensures ∙ c.args.posts.ok.0) c.add_empty.ensures c.place_all.ensures) ∙ length-placed ps (replicate {A = Option Posted} (length ps) None) ∙ length-replicate {A = Option Posted} None (length ps) in
    (omega (arith, long, c.requires.room.1), omega (arith, long, c.requires.room.2))

pub returns : goal.returns
returns c =
    let s = placed_in_order c.args.posts.items c.requires.numbers in
    let is = c.taken_apart.ensures s.0 (places_are c.args.posts.items c.len.result c.add_empty.new.places.items c.place_all.new.places.items (c.len.ensures ∙ c.args.posts.ok.0) c.add_empty.ensures c.place_all.ensures ∙ s.2) in
    (s.0, s.1, is.0, is.1)
