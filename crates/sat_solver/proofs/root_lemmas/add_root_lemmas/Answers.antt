use Rattle.std.proofs.Common.{ℕ, ◌<◌, List, length, sym, subst, arith}
use Rattle.std.specs.List.{Contains}
use Rattle.std.proofs.lemmas.List.Elements.{All-contains, Contains-push}
use Rattle.sat_trail.specs.Trail.{upto}
use Rattle.sat_solver.proofs.Reasons.{length_same}
use Rattle.sat_solver.proofs.root_lemmas.add_root_lemmas.Goals as goal

pub consider-requires-clause-at_root : goal.consider-requires-clause-at_root
consider-requires-clause-at_root c =
    let first = c.args.search.now.premises.trail.assignments in
    let place = c.in-Some.place.now in
    let same = length_same 0 c.loop-place.search.premises.trail.assignments first c.loop-place.invariant.stays in
    let P : List ℕ → Type 0 = λ ns. Contains ns place in
    let inside = subst P (sym c.in-Some.ensures.steps) (Contains-push c.next.new.self.iter.rest.now place) in
    let lt = All-contains (λ n. n < length (upto 0 first)) c.loop-place.place-iterator.iter.rest.now place c.loop-place.invariant.at_root inside in
    omega arith
