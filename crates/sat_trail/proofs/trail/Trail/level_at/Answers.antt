use Rattle.std.proofs.Common.{◌<◌, ℤ, nat_abs, length, get_or, take, ap, sym, ◌∙◌, subst, arith}
use Rattle.std.proofs.lemmas.List.{length-map, length-take, get_or-take}
use Rattle.sat_trail.specs.Trail.{TrailState, levels}
use Rattle.sat_trail.specs.Kept.{assignment_from}
use Rattle.sat_trail.proofs.Representation.{literal_in_range}
use Rattle.sat_trail.proofs.Lookup.{level_read}
use Rattle.sat_trail.proofs.trail.Trail.level_at.Goals as goal

pub index-requires : goal.index-requires
index-requires c =
    let s = c.self.inside in
    let Q : TrailState → Type 0 = λ t. c.args.place < length t.assignments in
    let within = subst Q (sym c.self.view_is) c.requires in
    let below : c.args.place < s.count = omega (arith, length-map (take s.count s.lits.items) (assignment_from s.causes.items), length-take s.count s.lits.items) in
    let P : ℤ → Type 0 = λ l. nat_abs l < length s.causes.items in
    let small = literal_in_range s.vars s.count s.level s.low s.causes.items s.lits.items s.values.items s.ends.items c.args.place c.index-lit.result.now c.self.invariant below in
    let here = subst P (sym c.index-lit.ensures) small in
    omega (arith, here, c.var.ensures.size)

pub returns : goal.returns
returns c =
    let s = c.self.inside in
    let ls = take s.count s.lits.items in
    let lit = c.index-lit.result.now in
    let Q : TrailState → Type 0 = λ t. c.args.place < length t.assignments in
    let within = subst Q (sym c.self.view_is) c.requires in
    let below : c.args.place < s.count = omega (arith, length-map ls (assignment_from s.causes.items), length-take s.count s.lits.items) in
    let wide : c.args.place < length ls = omega (arith, length-map ls (assignment_from s.causes.items)) in
    let P : ℤ → Type 0 = λ l. nat_abs l < length s.causes.items in
    let small = literal_in_range s.vars s.count s.level s.low s.causes.items s.lits.items s.values.items s.ends.items c.args.place lit c.self.invariant below in
    level_read s.causes.items ls c.args.place lit c.index.result.now wide
    (c.index-lit.ensures ∙ sym (get_or-take s.count s.lits.items c.args.place lit below))
    (subst P (sym c.index-lit.ensures) small)
    (c.index.ensures ∙ ap (λ n. get_or s.causes.items n c.index.result.now) c.var.ensures.size)
    ∙ ap (λ (t : TrailState). get_or (levels t.assignments) c.args.place 0) c.self.view_is
