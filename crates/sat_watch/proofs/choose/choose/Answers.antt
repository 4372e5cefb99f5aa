use Rattle.std.proofs.Common.{◌≡◌, ◌+◌, ◌<◌, ℤ, List, ◌∷◌, ◌++◌, [], length, take, ap, sym, ◌∙◌, subst, arith}
use Rattle.std.proofs.lemmas.List.{take_more}
use Rattle.sat_watch.specs.Watching.{IsChosen}
use Rattle.sat_watch.proofs.Choice.{apart_at, fresh_at, within_take}
use Rattle.sat_watch.proofs.choose.choose.Goals as goal

pub in_order-pair-requires-clause-differ : goal.in_order-pair-requires-clause-differ
in_order-pair-requires-clause-differ c =
    let clause = c.args.clause.now in
    let two = c.requires.two in
    apart_at clause 0 1 c.index-clause-0.result c.index-clause-1.result c.requires.distinct (omega arith) (omega arith) c.index-clause-0.is c.index-clause-1.is

pub with_one_more-pair-requires-clause-first : goal.with_one_more-pair-requires-clause-first
with_one_more-pair-requires-clause-first c =
    within_take c.args.trail.now.vars c.args.clause.now c.loop-place.place c.loop-place.pair.first c.requires.in_range c.loop-place.invariant.pair.first_in

pub with_one_more-pair-requires-clause-second : goal.with_one_more-pair-requires-clause-second
with_one_more-pair-requires-clause-second c =
    within_take c.args.trail.now.vars c.args.clause.now c.loop-place.place c.loop-place.pair.second c.requires.in_range c.loop-place.invariant.pair.second_in

pub loop-place-preserved : goal.loop-place-preserved
loop-place-preserved c =
    let clause = c.args.clause.now in
    let place = c.loop-place.place in
    let lit = c.index-clause-place.result in
    let lt : place < length clause = omega arith in
    let more : take (place + 1) clause ≡ take place clause ++ lit ∷ [] = take_more clause place lit lt ∙ ap (λ l. take place clause ++ l ∷ []) (sym c.index-clause-place.is) in
    let P : List ℤ → Type 0 = λ ls. IsChosen c.args.trail.now.assignments ls c.with_one_more-pair.result.first c.with_one_more-pair.result.second in
    subst P (sym more) (c.with_one_more-pair.ensures (take place clause) (fresh_at clause place lit c.requires.distinct lt c.index-clause-place.is) c.loop-place.invariant)
