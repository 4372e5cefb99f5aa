use Rattle.std.proofs.Common.{◌≡◌, ℕ, ◌+◌, ◌*◌, ℤ, Some, List, get_or, refl, sym, ap, ◌∙◌, subst, arith, inl, inr}
use Rattle.std.specs.List.{slice_get}
use Rattle.std.proofs.lemmas.Bool.{cases_lt}
use Rattle.std.proofs.lemmas.Option.{slice_get-get_or, slice_get_within}
use Rattle.sat_watch.specs.Kept.{IsPair, first_lit, second_lit}
use Rattle.sat_watch.specs.Links.{watch_lits}
use Rattle.sat_watch.specs.Watching.{IsChosen}
use Rattle.sat_watch.proofs.Pairs.{at_literals, lit_read}
use Rattle.sat_watch.proofs.choose.are_last_from.Goals.{After-get}
use Rattle.sat_watch.proofs.choose.are_last_from.Goals as goal

there_is : (c : After-get) → slice_get c.args.clauses.now c.loop-place.place ≡ Some c.get.result.now
there_is c = slice_get-get_or c.args.clauses.now c.loop-place.place c.get.result.now (omega (arith, c.loop-place-test.true, c.len-place-end.ensures)) ∙ ap Some (sym c.get.ensures.clause)

-- the watches as they are read
first_read : (c : After-get) → first_lit (watch_lits c.args.watches.now) c.loop-place.place ≡ (get_or c.args.watches.now (2 * c.loop-place.place) c.index-watches-place.result).lit
first_read c = lit_read c.args.watches.now (2 * c.loop-place.place) c.index-watches-place.result (omega (arith, c.loop-place-test.true, c.len-place-end.ensures, c.requires.two_each))

second_read : (c : After-get) → second_lit (watch_lits c.args.watches.now) c.loop-place.place ≡ (get_or c.args.watches.now (2 * c.loop-place.place + 1) c.index-watches-place-in-loop-place.result).lit
second_read c = lit_read c.args.watches.now (2 * c.loop-place.place + 1) c.index-watches-place-in-loop-place.result (omega (arith, c.loop-place-test.true, c.len-place-end.ensures, c.requires.two_each))

pub are_last-requires-clause-pair : goal.are_last-requires-clause-pair
are_last-requires-clause-pair c =
    let k = goal.at.are_last-requires-clause-pair c in
    let watched = watch_lits c.args.watches.now in
    let place = c.loop-place.place in
    at_literals IsPair c.get.result.now (first_lit watched place) (second_lit watched place) _ _ (first_read k.After-get) (second_read k.After-get) (c.requires.pairs place c.get.result.now (there_is k.After-get))

pub loop-place-preserved : goal.loop-place-preserved
loop-place-preserved c place clause low high there =
    let k = (goal.at.loop-place-preserved c).After-get in
    let watched = watch_lits c.args.watches.now in
    let at = c.loop-place.place in
    let read = c.get.result.now in
    let Chosen : List ℤ → ℤ → ℤ → Type 0 = λ ls x y. IsChosen c.args.trail.now.assignments ls x y in
    elim (cases_lt place at) [
      | inl before ↦ c.loop-place.invariant place clause low before there
      | inr past ↦ (let same : at ≡ place = omega arith in
          let here = at_literals Chosen read _ _ (first_lit watched at) (second_lit watched at) (sym (first_read k)) (sym (second_read k)) (c.if-not-are_last.ensures refl) in
          let S : ℕ → Type 0 = λ n. slice_get c.args.clauses.now n ≡ Some read in
          let is_there : slice_get c.args.clauses.now place ≡ Some read = subst S same (there_is k) in
          let one : read ≡ clause = cc in
          let C : List ℤ → Type 0 = λ ls. Chosen ls (first_lit watched at) (second_lit watched at) in
          let N : ℕ → Type 0 = λ n. Chosen clause (first_lit watched n) (second_lit watched n) in
          subst N same (subst C one here))
    ]

pub returns : goal.returns
returns c said place clause low there =
    let within = slice_get_within c.args.clauses.now place clause there in
    c.loop-place.invariant place clause low (omega (arith, c.loop-place-test.false, c.len-place-end.ensures)) there
