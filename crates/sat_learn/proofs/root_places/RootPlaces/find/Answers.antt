use Rattle.std.proofs.Common.{◌<◌, length, sym, ◌∙◌, arith}
use Rattle.std.proofs.lemmas.Bool.Decides.{Decides-int_eq}
use Rattle.sat_learn.proofs.Antecedents.{lit_at}
use Rattle.sat_learn.proofs.Assignments.{assignment_at}
use Rattle.sat_learn.proofs.root_places.RootPlaces.find.Goals as goal

pub returns-then-eq : goal.returns-then-eq
returns-then-eq c =
    let ps = c.args.trail.now.assignments in
    let place = c.in-Some.place.now in
    let lt : place < length ps = omega (arith, c.if-place-len.true, c.len.ensures.value) in
    let q = assignment_at ps place lt in
    (q.0, q.1, sym (lit_at ps place q.0 c.at.result q.1 c.at.ensures) ∙ (Decides-int_eq c.at.result c.args.lit).0 (sym c.eq.ensures ∙ c.if-eq.true))
