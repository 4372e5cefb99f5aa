use Rattle.std.proofs.Common.{◌≡◌, List, ◌<◌, ◌≤◌, length, map, take, Some, ap, sym, ◌∙◌, subst, arith}
use Rattle.sat_trail.specs.Trail.{Assignment, TrailState, assignment_of, with_reason}
use Rattle.sat_trail.specs.Kept.{no_cause}
use Rattle.sat_trail.specs.declared.cause.Cause.{Cause}
use Rattle.sat_trail.proofs.Lookup.{get_or_any}
use Rattle.sat_trail.proofs.Reasons.{Rests, assignments_rest, IsKept-rest}
use Rattle.sat_trail.proofs.trail.Trail.set_reason.Goals as goal

pub invariant_of-self : goal.invariant_of-self
invariant_of-self c =
    let s = c.self.inside in
    let R : TrailState → Type 0 = λ t. c.args.var ≤ t.vars in
    let F : TrailState → Type 0 = λ t. assignment_of c.args.var t.assignments ≡ Some c.requires.forced.0 in
    let within = subst R (sym c.self.view_is) c.requires.in_range in
    let room : c.args.var < length s.causes.items = (let k = c.self.invariant.causes_room in omega arith) in
    let rests : Rests s.causes.items c.args.var c.args.reason c.assumed.result = record { room = room; at_level = c.assumed.ensures.level ∙ ap (λ (x : Cause). x.level) (sym (get_or_any s.causes.items c.args.var c.index.result.now no_cause room c.index.ensures)); gives = c.assumed.ensures.reason } in
    IsKept-rest s.vars s.count s.level s.low s.causes.items s.lits.items s.values.items s.ends.items c.args.var c.args.reason c.assumed.result c.requires.forced.0 c.self.invariant rests (subst F (sym c.self.view_is) c.requires.forced.1) c.requires.forced.2

pub returns : goal.returns
returns c =
    let s = c.self.inside in
    let R : TrailState → Type 0 = λ t. c.args.var ≤ t.vars in
    let within = subst R (sym c.self.view_is) c.requires.in_range in
    let room : c.args.var < length s.causes.items = (let k = c.self.invariant.causes_room in omega arith) in
    let rests : Rests s.causes.items c.args.var c.args.reason c.assumed.result = record { room = room; at_level = c.assumed.ensures.level ∙ ap (λ (x : Cause). x.level) (sym (get_or_any s.causes.items c.args.var c.index.result.now no_cause room c.index.ensures)); gives = c.assumed.ensures.reason } in
    let F : TrailState → TrailState = λ t. record { vars = t.vars; assignments = map (with_reason c.args.var c.args.reason) t.assignments; level = t.level; low = t.low } in
    let whole : List Assignment → TrailState = λ qs. record { vars = s.vars; assignments = qs; level = s.level; low = s.low } in
    ap whole (assignments_rest s.causes.items c.args.var c.args.reason c.assumed.result (take s.count s.lits.items) rests)
    ∙ ap F c.self.view_is
