use Rattle.std.proofs.Common.{◌≡◌, ◌<◌, length, take, get_or, ap, sym, ◌∙◌, subst, arith}
use Rattle.std.proofs.lemmas.List.{get_or-take, length-map, length-take}
use Rattle.sat_trail.specs.Trail.{TrailState, lits}
use Rattle.sat_trail.specs.Kept.{assignment_from}
use Rattle.sat_trail.proofs.Representation.{lits-assignments}
use Rattle.sat_trail.proofs.trail.Trail.at.Goals as goal

pub returns : goal.returns
returns c =
    let P : TrailState → Type 0 = λ t. c.index.result.now ≡ get_or (lits t.assignments) c.args.place c.index.result.now in
    let Q : TrailState → Type 0 = λ t. c.args.place < length t.assignments in
    let s = c.self.inside in
    let within = subst Q (sym c.self.view_is) c.requires in
    let below : c.args.place < s.count = omega (arith, length-map (take s.count s.lits.items) (assignment_from s.causes.items), length-take s.count s.lits.items) in
    subst P c.self.view_is
    (c.index.ensures
    ∙ sym (get_or-take s.count s.lits.items c.args.place c.index.result.now below)
    ∙ ap (λ ls. get_or ls c.args.place c.index.result.now) (sym (lits-assignments s.causes.items (take s.count s.lits.items))))
