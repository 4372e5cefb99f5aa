use Rattle.std.proofs.Common.{◌≡◌, ◌*◌, ◌<◌, ◌≤◌, pos, length, None, ap, sym, ◌∙◌, subst, arith}
use Rattle.std.specs.Option.{option_and_then}
use Rattle.sat_trail.specs.declared.truth.Value.TheVariants.{Unset}
use Rattle.sat_trail.specs.Trail.{Assignment, TrailState, assignment_of}
use Rattle.sat_trail.specs.Kept.{kept_value}
use Rattle.sat_trail.proofs.Lookup.{get_or_any, assignment_of_unset, assignment_of_set}
use Rattle.sat_trail.proofs.trail.Trail.reason_of.Goals as goal

pub returns-in-Unset : goal.returns-in-Unset
returns-in-Unset c =
    let P : TrailState → Type 0 = λ t. None ≡ option_and_then (λ (p : Assignment). p.reason) (assignment_of c.args.var t.assignments) in
    let Q : TrailState → Type 0 = λ t. c.args.var ≤ t.vars in
    let s = c.self.inside in
    let within = subst Q (sym c.self.view_is) c.requires.in_range in
    let lt : 2 * c.args.var < length s.values.items = (let room = c.self.invariant.values_room in omega arith) in
    let unset : kept_value s.values.items (pos c.args.var) ≡ Unset = get_or_any s.values.items (2 * c.args.var) c.index.result.now Unset lt c.index.ensures ∙ c.in-Unset.is in
    subst P c.self.view_is (sym (ap (option_and_then (λ (p : Assignment). p.reason)) (assignment_of_unset s.vars s.count s.level s.low s.causes.items s.lits.items s.values.items s.ends.items c.args.var c.self.invariant within unset)))

pub returns-in_default : goal.returns-in_default
returns-in_default c =
    let P : TrailState → Type 0 = λ t. c.reason.result ≡ option_and_then (λ (p : Assignment). p.reason) (assignment_of c.args.var t.assignments) in
    let Q : TrailState → Type 0 = λ t. c.args.var ≤ t.vars in
    let s = c.self.inside in
    let within = subst Q (sym c.self.view_is) c.requires.in_range in
    let lt : 2 * c.args.var < length s.values.items = (let room = c.self.invariant.values_room in omega arith) in
    let assignment = assignment_of_set s.vars s.count s.level s.low s.causes.items s.lits.items s.values.items s.ends.items c.args.var c.index-in_default.result.now c.self.invariant within (λ unset. c.in_default.not-Unset (sym (get_or_any s.values.items (2 * c.args.var) c.index.result.now Unset lt c.index.ensures) ∙ unset)) c.index-in_default.ensures in
    subst P c.self.view_is (c.reason.ensures ∙ sym (ap (option_and_then (λ (p : Assignment). p.reason)) assignment.1))
