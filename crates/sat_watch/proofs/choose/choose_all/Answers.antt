use Rattle.std.proofs.Common.{◌≡◌, ◌+◌, ◌*◌, ◌<◌, ℤ, Some, List, length, set, ap, sym, ◌∙◌, subst, arith}
use Rattle.std.specs.List.{slice_get}
use Rattle.std.proofs.lemmas.Option.{slice_get-get_or, slice_get_within}
use Rattle.sat_watch.specs.Links.{watch_lits}
use Rattle.sat_watch.specs.Watching.{IsChosen}
use Rattle.sat_watch.proofs.Pairs.{EachBetween, lits-set, length-lits, pair_written}
use Rattle.sat_watch.proofs.choose.choose_all.Goals as goal

pub loop-place-preserved : goal.loop-place-preserved
loop-place-preserved c =
    let clauses = c.args.clauses.now in
    let clause = c.get.result.now in
    let place = c.loop-place.place in
    let watches = c.loop-place.watches in
    let a = c.unlinked.result in
    let b = c.unlinked-in-loop-place.result in
    let lt : place < length clauses = omega arith in
    let room : 2 * place + 1 < length (watch_lits watches) = omega (arith, length-lits watches, c.requires.two_each, c.loop-place.auto.watches) in
    let is : slice_get clauses place ≡ Some clause = slice_get-get_or clauses place clause lt ∙ ap Some (sym c.get.ensures.clause) in
    let Chosen : List ℤ → ℤ → ℤ → Type 0 = λ ls x y. IsChosen c.args.trail.now.assignments ls x y in
    let F : ℤ → Type 0 = λ x. Chosen clause x c.choose-pair.result.second in
    let S : ℤ → Type 0 = λ x. Chosen clause a.lit x in
    let here = subst S (sym c.unlinked-in-loop-place.ensures) (subst F (sym c.unlinked.ensures) c.choose-pair.ensures) in
    let written : watch_lits (set (set watches (2 * place) a) (2 * place + 1) b) ≡ set (set (watch_lits watches) (2 * place) a.lit) (2 * place + 1) b.lit =
    lits-set (set watches (2 * place) a) (2 * place + 1) b ∙ ap (λ ls. set ls (2 * place + 1) b.lit) (lits-set watches (2 * place) a) in
    let L : List ℤ → Type 0 = λ ls. EachBetween 0 (place + 1) Chosen clauses ls in
    subst L (sym written) (pair_written Chosen clauses (watch_lits watches) 0 place clause a.lit b.lit room is here c.loop-place.invariant)

pub returns : goal.returns
returns c place clause there =
    let within = slice_get_within c.args.clauses.now place clause there in
    c.loop-place.invariant place clause (omega arith) (omega arith) there
