use Rattle.std.proofs.Common.{◌≡◌, ℕ, ◌+◌, ◌<◌, true, false, ℤ, nat_abs, List, set, get_or, ap, sym, ◌∙◌, subst, arith, inl, inr}
use Rattle.std.proofs.lemmas.Bool.{both_ways}
use Rattle.sat_learn.specs.Resolving.{is_marked}
use Rattle.sat_learn.specs.Tracking.{IsTracked}
use Rattle.sat_learn.proofs.Assignments.{level_to, false_at_one}
use Rattle.sat_learn.proofs.Tracking.{open_few, track_root, track_kept, track_open}
use Rattle.sat_learn.proofs.analysis.note.Goals as goal

pub returns-in_ok-push-clause-tracked : goal.returns-in_ok-push-clause-tracked
returns-in_ok-push-clause-tracked c =
    let t = c.args.trail.now in
    let a = c.args.analysis.now in
    let P : ℕ → Type 0 = λ v. IsTracked t (set c.args.marks.now v true) a.kept.items c.push.new.self.items a.open_count in
    let Q : List ℤ → Type 0 = λ ls. IsTracked t (set c.args.marks.now (nat_abs c.args.lit) true) a.kept.items ls a.open_count in
    subst P (sym c.var-index.ensures.size)
    (subst Q (sym c.in_ok-push.ensures.items)
    (track_root t c.args.marks.now a.kept.items a.root_lits.items a.open_count c.args.lit c.level_of_false-level.result c.requires.trail c.requires.tracked c.requires.in_range c.level_of_false-level.ensures c.if-level-eq0.true))

pub returns-in_ok-push-2-clause-tracked : goal.returns-in_ok-push-2-clause-tracked
returns-in_ok-push-2-clause-tracked c =
    let t = c.args.trail.now in
    let a = c.args.analysis.now in
    let P : ℕ → Type 0 = λ v. IsTracked t (set c.args.marks.now v true) c.push-then-level.new.self.items a.root_lits.items a.open_count in
    let Q : List ℤ → Type 0 = λ ls. IsTracked t (set c.args.marks.now (nat_abs c.args.lit) true) ls a.root_lits.items a.open_count in
    let below : c.level_of_false-level.result < t.level = omega (arith, c.if-level.true, c.level.ensures) in
    subst P (sym c.var-index.ensures.size)
    (subst Q (sym c.in_ok-push-2.ensures.items)
    (track_kept t c.args.marks.now a.kept.items a.root_lits.items a.open_count c.args.lit c.level_of_false-level.result c.requires.trail c.requires.tracked c.requires.in_range c.level_of_false-level.ensures c.if-level-eq0.false below))

pub returns-else-level-clause-tracked : goal.returns-else-level-clause-tracked
returns-else-level-clause-tracked c =
    let t = c.args.trail.now in
    let a = c.args.analysis.now in
    let at = c.level_of_false-level.ensures in
    let unmarked : is_marked c.args.marks.now c.args.lit ≡ false = ap (λ n. get_or c.args.marks.now n false) (sym c.var-index.ensures.size) ∙ c.if-marks-index.false in
    let P : ℕ → Type 0 = λ v. IsTracked t (set c.args.marks.now v true) a.kept.items a.root_lits.items (a.open_count + 1) in
    let high = level_to 0 t.assignments t.level at.place at.assignment c.requires.trail.climbs at.stands in
    let present : c.level_of_false-level.result ≡ t.level = omega (arith, c.if-level.false, c.level.ensures, at.at_level) in
    subst P (sym c.var-index.ensures.size)
    (track_open t c.args.marks.now a.kept.items a.root_lits.items a.open_count c.args.lit c.level_of_false-level.result c.requires.trail c.requires.tracked c.requires.in_range unmarked c.level_of_false-level.ensures present)

pub returns-else-level-clause-stays : goal.returns-else-level-clause-stays
returns-else-level-clause-stays c earlier =
    let t = c.args.trail.now in
    let unmarked : is_marked c.args.marks.now c.args.lit ≡ false = ap (λ n. get_or c.args.marks.now n false) (sym c.var-index.ensures.size) ∙ c.if-marks-index.false in
    elim earlier [
      | inl e ↦ absurd (both_ways (is_marked c.args.marks.now c.args.lit) unmarked e)
      | inr e ↦ (let same = false_at_one t c.args.lit e.0 c.level_of_false-level.result c.requires.trail e.1 c.level_of_false-level.ensures in
          let below = e.2 in
          absurd (omega (arith, c.if-level.false, c.level.ensures)))
    ]

pub overflow_add-analysis : goal.overflow_add-analysis
overflow_add-analysis c =
    let few = open_few c.args.trail.now c.args.marks.now c.args.analysis.now.open_count c.requires.trail c.requires.tracked.number in
    omega arith
