use Rattle.std.proofs.Common.{◌≡◌, take, ap, sym, ◌∙◌, subst, arith}
use Rattle.std.specs.List.{slice_range}
use Rattle.sat_trail.specs.Trail.{TrailState, lits}
use Rattle.sat_trail.proofs.Representation.{lits-assignments, range_is}
use Rattle.sat_trail.proofs.trail.Trail.literals.Goals as goal

pub returns : goal.returns
returns c =
    let s = c.self.inside in
    let P : TrailState → Type 0 = λ t. c.between.result.now ≡ lits t.assignments in
    subst P c.self.view_is
    (c.between.ensures
    ∙ ap (λ ls. slice_range ls 0 s.count) c.deref.ensures.value
    ∙ range_is 0 s.count s.lits.items (omega arith)
    ∙ sym (lits-assignments s.causes.items (take s.count s.lits.items)))
