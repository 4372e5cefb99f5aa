use Rattle.std.proofs.Common.{◌≤◌, subst, arith}
use Rattle.sat_trail.specs.Trail.{TrailState, IsTrail}
use Rattle.sat_trail.proofs.Representation.{whole_upto}
use Rattle.sat_trail.proofs.trail.Trail.back_to.Goals as goal

pub returns-else-level-self : goal.returns-else-level-self
returns-else-level-self c =
    let P : TrailState → Type 0 = λ t. IsTrail t in
    let Q : TrailState → Type 0 = λ t. t.level ≤ c.args.level in
    let above = subst Q c.self.view_is c.if-level-self.false in
    let at_most = c.requires in
    whole_upto c.args.self.now c.args.level (subst P c.self.view_is c.self.invariant.trail) (omega arith)
