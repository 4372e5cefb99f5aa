use Rattle.std.proofs.Common.{◌≡◌, ◌+◌, ◌<◌, ◌≤◌, ◌++◌, ◌∷◌, [], cond, neg_ℤ, nat_abs, Option, None, List, length, set, ap, sym, ◌∙◌, subst, arith}
use Rattle.std.proofs.lemmas.List.{length-set, get_or-set_same, get_or-set_other, with_items_is}
use Rattle.sat_trail.specs.declared.clause_id.ClauseId.{ClauseId}
use Rattle.sat_trail.specs.declared.truth.Value.{Value}
use Rattle.sat_trail.specs.declared.truth.Value.TheVariants.{True, False, Unset}
use Rattle.sat_trail.specs.Trail.{TrailState, lits, value_in, Joins}
use Rattle.cnf_base.specs.Status.{same_lit}
use Rattle.sat_trail.specs.Kept.{kept_value, reason_of_cause}
use Rattle.sat_trail.proofs.Representation.{Held, CanAssign, Ends, Writes, level_le_count, room_to_assignment, IsKept-assignment, view-assignment}
use Rattle.sat_trail.proofs.trail.Trail.decide.Goals as goal

pub index_mut-requires : goal.index_mut-requires
index_mut-requires c =
    let s = c.self.inside in
    let P : TrailState → Type 0 = λ t. nat_abs c.args.lit ≤ t.vars in
    let Q : TrailState → Type 0 = λ t. value_in (lits t.assignments) c.args.lit ≡ Unset in
    let can : CanAssign s.vars s.count s.causes.items s.lits.items c.args.lit c.var-place.result = record { var_is = c.var-place.ensures.size; not_zero = c.var-place.ensures.not_zero; within = subst P (sym c.self.view_is) c.requires.in_range; free = subst Q (sym c.self.view_is) c.requires.unset } in
    let room = room_to_assignment s.vars s.count s.level s.low s.causes.items s.lits.items s.values.items s.ends.items c.args.lit c.var-place.result c.self.invariant can in
    let levels = level_le_count s.vars s.count s.level s.low s.causes.items s.lits.items s.values.items s.ends.items c.self.invariant in
    let kept = c.self.invariant in
    omega (arith, kept.lits_room, kept.ends_room, kept.trail.few_vars)

pub overflow_add-self : goal.overflow_add-self
overflow_add-self c =
    let s = c.self.inside in
    let P : TrailState → Type 0 = λ t. nat_abs c.args.lit ≤ t.vars in
    let Q : TrailState → Type 0 = λ t. value_in (lits t.assignments) c.args.lit ≡ Unset in
    let can : CanAssign s.vars s.count s.causes.items s.lits.items c.args.lit c.var-place.result = record { var_is = c.var-place.ensures.size; not_zero = c.var-place.ensures.not_zero; within = subst P (sym c.self.view_is) c.requires.in_range; free = subst Q (sym c.self.view_is) c.requires.unset } in
    let room = room_to_assignment s.vars s.count s.level s.low s.causes.items s.lits.items s.values.items s.ends.items c.args.lit c.var-place.result c.self.invariant can in
    let levels = level_le_count s.vars s.count s.level s.low s.causes.items s.lits.items s.values.items s.ends.items c.self.invariant in
    let kept = c.self.invariant in
    omega (arith, kept.lits_room, kept.ends_room, kept.trail.few_vars)

pub index_mut-requires-3 : goal.index_mut-requires-3
index_mut-requires-3 c =
    let s = c.self.inside in
    let P : TrailState → Type 0 = λ t. nat_abs c.args.lit ≤ t.vars in
    let Q : TrailState → Type 0 = λ t. value_in (lits t.assignments) c.args.lit ≡ Unset in
    let can : CanAssign s.vars s.count s.causes.items s.lits.items c.args.lit c.var-place.result = record { var_is = c.var-place.ensures.size; not_zero = c.var-place.ensures.not_zero; within = subst P (sym c.self.view_is) c.requires.in_range; free = subst Q (sym c.self.view_is) c.requires.unset } in
    let room = room_to_assignment s.vars s.count s.level s.low s.causes.items s.lits.items s.values.items s.ends.items c.args.lit c.var-place.result c.self.invariant can in
    let levels = level_le_count s.vars s.count s.level s.low s.causes.items s.lits.items s.values.items s.ends.items c.self.invariant in
    let kept = c.self.invariant in
    omega (arith, kept.lits_room, kept.ends_room, kept.trail.few_vars)

pub invariant_of-self : goal.invariant_of-self
invariant_of-self c =
    let s = c.self.inside in
    let P : TrailState → Type 0 = λ t. nat_abs c.args.lit ≤ t.vars in
    let Q : TrailState → Type 0 = λ t. value_in (lits t.assignments) c.args.lit ≡ Unset in
    let can : CanAssign s.vars s.count s.causes.items s.lits.items c.args.lit c.var-place.result = record { var_is = c.var-place.ensures.size; not_zero = c.var-place.ensures.not_zero; within = subst P (sym c.self.view_is) c.requires.in_range; free = subst Q (sym c.self.view_is) c.requires.unset } in
    let cause = c.decided.result in
    let joins : Joins s.level cause.level (reason_of_cause cause) = (let P : Option ClauseId → Type 0 = λ r. Joins s.level cause.level r in subst P (sym c.decided.ensures.reason) c.decided.ensures.level) in
    let levels = level_le_count s.vars s.count s.level s.low s.causes.items s.lits.items s.values.items s.ends.items c.self.invariant in
    let room = room_to_assignment s.vars s.count s.level s.low s.causes.items s.lits.items s.values.items s.ends.items c.args.lit c.var-place.result c.self.invariant can in
    let below : s.level < length s.ends.items = (let k = c.self.invariant.ends_room in omega arith) in
    let ends_are : Ends s.count s.level (s.level + 1) s.ends.items (set s.ends.items s.level s.count) = record { len = length-set s.ends.items s.level s.count; stay = λ k lt. get_or-set_other s.ends.items s.level k s.count 0 (λ e. omega arith); next = λ lt. get_or-set_same s.ends.items s.level s.count 0 below } in
    let len : length c.set_values.new.values ≡ s.values.len = omega (arith, c.set_values.auto.values, c.deref_mut.ensures.len) in
    let len_items : length c.set_values.new.values ≡ length s.values.items = c.set_values.auto.values ∙ ap length c.deref_mut.ensures.value in
    let writes : Writes c.args.lit True False s.values.items c.set_values.new.values = record { len = len_items; each = λ x. c.set_values.ensures x ∙ ap (λ vs. cond (same_lit c.args.lit x) True (cond (same_lit c.args.lit (neg_ℤ x)) False (kept_value vs x))) c.deref_mut.ensures.value } in
    let R : List Value → Type 0 = λ vs. Held s.vars (s.count + 1) (s.level + 1) s.low (set s.causes.items c.var-place.result cause) (set s.lits.items s.count c.args.lit) vs (set s.ends.items s.level s.count) in
    subst R (sym (with_items_is s.values c.set_values.new.values len))
    (IsKept-assignment s.vars s.count s.level s.low (s.level + 1) s.causes.items s.lits.items s.values.items c.set_values.new.values s.ends.items (set s.ends.items s.level s.count) c.args.lit c.var-place.result cause c.self.invariant can joins (sym c.decided.ensures.level) ends_are writes)

pub returns : goal.returns
returns c =
    let s = c.self.inside in
    let P : TrailState → Type 0 = λ t. nat_abs c.args.lit ≤ t.vars in
    let Q : TrailState → Type 0 = λ t. value_in (lits t.assignments) c.args.lit ≡ Unset in
    let can : CanAssign s.vars s.count s.causes.items s.lits.items c.args.lit c.var-place.result = record { var_is = c.var-place.ensures.size; not_zero = c.var-place.ensures.not_zero; within = subst P (sym c.self.view_is) c.requires.in_range; free = subst Q (sym c.self.view_is) c.requires.unset } in
    let cause = c.decided.result in
    let F : TrailState → TrailState = λ t. record { vars = t.vars; assignments = t.assignments ++ record { lit = c.args.lit; level = t.level + 1; reason = None } ∷ []; level = t.level + 1; low = t.low } in
    view-assignment s.vars s.count s.level s.low (s.level + 1) s.causes.items s.lits.items s.values.items s.ends.items c.args.lit c.var-place.result cause (None) c.self.invariant can (sym c.decided.ensures.level) c.decided.ensures.reason
    ∙ ap F c.self.view_is
