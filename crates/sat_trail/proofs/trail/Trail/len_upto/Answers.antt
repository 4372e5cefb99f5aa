use Rattle.std.proofs.Common.{◌≡◌, length, take, map, ap, sym, ◌∙◌, subst, arith}
use Rattle.sat_trail.specs.Trail.{TrailState, upto}
use Rattle.sat_trail.specs.Kept.{assignment_from}
use Rattle.sat_trail.proofs.Levels.{upto-all}
use Rattle.sat_trail.proofs.Representation.{held_count, level_le_count, end_at}
use Rattle.sat_trail.proofs.trail.Trail.len_upto.Goals as goal

pub index-requires : goal.index-requires
index-requires c =
    let s = c.self.inside in
    let levels = level_le_count s.vars s.count s.level s.low s.causes.items s.lits.items s.values.items s.ends.items c.self.invariant in
    let kept = c.self.invariant in
    omega (arith, kept.ends_room, kept.number)

pub returns-then-level-self : goal.returns-then-level-self
returns-then-level-self c =
    let s = c.self.inside in
    let P : TrailState → Type 0 = λ t. c.index.result.now ≡ length (upto c.args.level t.assignments) in
    subst P c.self.view_is (end_at s.vars s.count s.level s.low c.args.level c.index.result.now s.causes.items s.lits.items s.values.items s.ends.items c.self.invariant c.if-level-self.true c.index.ensures).0

pub returns-else-level-self : goal.returns-else-level-self
returns-else-level-self c =
    let s = c.self.inside in
    let assignments = map (assignment_from s.causes.items) (take s.count s.lits.items) in
    let P : TrailState → Type 0 = λ t. s.count ≡ length (upto c.args.level t.assignments) in
    subst P c.self.view_is
    (sym (held_count s.vars s.count s.level s.low s.causes.items s.lits.items s.values.items s.ends.items c.self.invariant)
    ∙ ap length (sym (upto-all c.args.level 0 assignments s.level c.self.invariant.trail.climbs c.if-level-self.false)))
