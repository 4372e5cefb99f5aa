use Rattle.std.proofs.Common.{◌≡◌, ◌+◌, ◌*◌, ◌<◌, ℕ, ℤ, cond, min, nat_abs, List, length, take, drop, ap, sym, ◌∙◌, subst, arith}
use Rattle.std.specs.List.{All, slice_range}
use Rattle.std.proofs.lemmas.List.{with_items_is}
use Rattle.sat_trail.specs.declared.truth.Value.{Value}
use Rattle.sat_trail.specs.declared.truth.Value.TheVariants.{Unset}
use Rattle.sat_trail.specs.Trail.{TrailState, upto}
use Rattle.sat_trail.specs.Kept.{state_of, kept_value}
use Rattle.sat_trail.proofs.LiteralValues.{touches}
use Rattle.sat_trail.proofs.Representation.{Held, level_le_count, end_at, range_is, removed_in_range, IsKept-cut, view-cut}
use Rattle.sat_trail.proofs.trail.Trail.cut.Goals as goal

pub index-end-requires : goal.index-end-requires
index-end-requires c =
    let s = c.self.inside in
    let Q : TrailState → Type 0 = λ t. c.args.level < t.level in
    let below : c.args.level < s.level = subst Q (sym c.self.view_is) c.requires in
    let levels = level_le_count s.vars s.count s.level s.low s.causes.items s.lits.items s.values.items s.ends.items c.self.invariant in
    let kept = c.self.invariant in
    omega (arith, kept.ends_room, kept.number)

pub between-requires-clause-ordered : goal.between-requires-clause-ordered
between-requires-clause-ordered c =
    let s = c.self.inside in
    let Q : TrailState → Type 0 = λ t. c.args.level < t.level in
    let below = subst Q (sym c.self.view_is) c.requires in
    (end_at s.vars s.count s.level s.low c.args.level c.index-end.result.now s.causes.items s.lits.items s.values.items s.ends.items c.self.invariant below c.index-end.ensures).1

pub unset_all-requires : goal.unset_all-requires
unset_all-requires c =
    let s = c.self.inside in
    let Q : TrailState → Type 0 = λ t. c.args.level < t.level in
    let below = subst Q (sym c.self.view_is) c.requires in
    let end = c.index-end.result.now in
    let ended = end_at s.vars s.count s.level s.low c.args.level end s.causes.items s.lits.items s.values.items s.ends.items c.self.invariant below c.index-end.ensures in
    let removed : c.between.result.now ≡ drop end (take s.count s.lits.items) = c.between.ensures ∙ ap (λ ls. slice_range ls end s.count) c.deref.ensures.value ∙ range_is end s.count s.lits.items ended.1 in
    let P : List ℤ → Type 0 = λ ls. All (λ l. 2 * nat_abs l + 1 < length c.deref_mut.result.now) ls in
    let R : List Value → Type 0 = λ vs. All (λ l. 2 * nat_abs l + 1 < length vs) (drop end (take s.count s.lits.items)) in
    subst P (sym removed) (subst R (sym c.deref_mut.ensures.value) (removed_in_range s.vars s.count s.level s.low end s.causes.items s.lits.items s.values.items s.ends.items c.self.invariant))

pub invariant_of-self : goal.invariant_of-self
invariant_of-self c =
    let s = c.self.inside in
    let Q : TrailState → Type 0 = λ t. c.args.level < t.level in
    let below = subst Q (sym c.self.view_is) c.requires in
    let end = c.index-end.result.now in
    let ended = end_at s.vars s.count s.level s.low c.args.level end s.causes.items s.lits.items s.values.items s.ends.items c.self.invariant below c.index-end.ensures in
    let removed : c.between.result.now ≡ drop end (take s.count s.lits.items) = c.between.ensures ∙ ap (λ ls. slice_range ls end s.count) c.deref.ensures.value ∙ range_is end s.count s.lits.items ended.1 in
    let len : length c.unset_all.new.values ≡ s.values.len = omega (arith, c.unset_all.auto.values, c.deref_mut.ensures.len) in
    let len_items : length c.unset_all.new.values ≡ length s.values.items = c.unset_all.auto.values ∙ ap length c.deref_mut.ensures.value in
    let R : List Value → Type 0 = λ vs. Held s.vars end c.args.level c.min-self-inside.result s.causes.items s.lits.items vs s.ends.items in
    let S : ℕ → Type 0 = λ n. Held s.vars end c.args.level n s.causes.items s.lits.items c.unset_all.new.values s.ends.items in
    subst R (sym (with_items_is s.values c.unset_all.new.values len))
    (subst S (sym c.min-self-inside.ensures)
    (IsKept-cut s.vars s.count s.level s.low c.args.level end s.causes.items s.lits.items s.values.items c.unset_all.new.values s.ends.items c.self.invariant below c.index-end.ensures len_items
    (λ x. c.unset_all.ensures x
    ∙ ap (λ ls. cond (touches ls x) Unset (kept_value c.deref_mut.result.now x)) removed
    ∙ ap (λ vs. cond (touches (drop end (take s.count s.lits.items)) x) Unset (kept_value vs x)) c.deref_mut.ensures.value)))

pub returns : goal.returns
returns c =
    let s = c.self.inside in
    let Q : TrailState → Type 0 = λ t. c.args.level < t.level in
    let below = subst Q (sym c.self.view_is) c.requires in
    let end = c.index-end.result.now in
    let F : TrailState → TrailState = λ t. record { vars = t.vars; assignments = upto c.args.level t.assignments; level = c.args.level; low = min t.low (length (upto c.args.level t.assignments)) } in
    ap (λ n. state_of s.vars end c.args.level n s.causes.items s.lits.items) c.min-self-inside.ensures
    ∙ view-cut s.vars s.count s.level s.low c.args.level end s.causes.items s.lits.items s.values.items s.ends.items c.self.invariant below c.index-end.ensures
    ∙ ap F c.self.view_is
