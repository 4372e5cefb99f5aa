use Rattle.std.proofs.Common.{◌≡◌, true, ◌-◌, neg_ℤ, List, ℤ, length, map, take, drop, reverse, ap, sym, ◌∙◌, subst, arith}
use Rattle.std.specs.List.Sorted.{IsPermutation}
use Rattle.std.proofs.lemmas.List.{take_rest, with_items_is}
use Rattle.cnf_base.specs.Status.{has}
use Rattle.sat_learn.specs.Learned.{LearnedState, IsLearned}
use Rattle.sat_learn.specs.Reasons.{Follows}
use Rattle.sat_learn.specs.Tracking.{IsGreatestLevel, IsMinimized}
use Rattle.sat_learn.proofs.Assignments.{true_by}
use Rattle.sat_learn.proofs.LearnedLiterals.{learned_from, none_marked, learned_follows}
use Rattle.sat_learn.proofs.Taken.{minimized_permuted}
use Rattle.sat_learn.proofs.conclusion.conclude.Goals as goal

pub draw-requires-clause-minimized : goal.draw-requires-clause-minimized
draw-requires-clause-minimized c =
    let t = c.args.trail.now in
    let kept = c.sort_by_level.new.kept in
    let len : length kept ≡ c.args.analysis.kept.len = omega (arith, c.sort_by_level.auto.kept, c.deref_mut.ensures.len) in
    let P : List ℤ → Type 0 = λ ls. IsPermutation ls kept in
    let Q : List ℤ → Type 0 = λ ls. IsMinimized t c.args.marks.now ls c.args.place in
    subst Q (sym (c.deref.ensures.value ∙ with_items_is c.args.analysis.kept kept len))
    (minimized_permuted t c.args.marks.now c.args.analysis.kept.items kept c.args.place (subst P c.deref_mut.ensures.value c.sort_by_level.ensures) c.requires.minimized)

pub greatest_level-backjump_level-requires-clause-false_now : goal.greatest_level-backjump_level-requires-clause-false_now
greatest_level-backjump_level-requires-clause-false_now c l inside =
    let known = c.in_ok-drawn.ensures in
    let rest_is : take (length c.deref-2.result.now - 1) (drop 1 c.deref-2.result.now) ≡ known.others = take_rest c.deref-2.result.now 1 ∙ ap (drop 1) (c.deref-2.ensures.value ∙ known.form) in
    let H : List ℤ → Type 0 = λ ls. has ls l ≡ true in
    let x = known.resolved.kept_false l (subst H rest_is inside) in
    true_by c.args.trail.now l x.0 x.1

pub returns-clause-learned : goal.returns-clause-learned
returns-clause-learned c =
    let known = c.in_ok-drawn.ensures in
    let backjump_level = c.greatest_level-backjump_level.result in
    let hints = reverse c.args.analysis.hints.items in
    let rest_is : take (length c.deref-2.result.now - 1) (drop 1 c.deref-2.result.now) ≡ known.others = take_rest c.deref-2.result.now 1 ∙ ap (drop 1) (c.deref-2.ensures.value ∙ known.form) in
    let made : List ℤ → LearnedState = λ ls. record { lits = ls; backjump_level = backjump_level; hints = hints; roots = c.args.roots.items; met = c.args.met.items } in
    let G : List ℤ → Type 0 = λ ls. IsGreatestLevel c.args.trail.now ls backjump_level in
    let L : LearnedState → Type 0 = λ l. IsLearned c.args.trail.now l in
    subst L (sym (c.new_learned.ensures ∙ ap made known.form)) (learned_from c.args.trail.now c.args.marks.now known.others c.args.place known.first backjump_level hints c.args.roots.items c.args.met.items known.resolved c.requires.trail (subst G rest_is c.greatest_level-backjump_level.ensures) c.requires.roots c.requires.met)

pub returns-clause-marks : goal.returns-clause-marks
returns-clause-marks c =
    let known = c.in_ok-drawn.ensures in
    none_marked c.args.trail.now c.args.marks.now known.others c.args.place known.first c.draw.new.marks known.resolved known.unmarked

pub returns-clause-follows : goal.returns-clause-follows
returns-clause-follows c live refutes =
    let known = c.in_ok-drawn.ensures in
    let hints = reverse c.args.analysis.hints.items in
    let made : List ℤ → LearnedState = λ ls. record { lits = ls; backjump_level = c.greatest_level-backjump_level.result; hints = hints; roots = c.args.roots.items; met = c.args.met.items } in
    let F : LearnedState → Type 0 = λ l. Follows live (map neg_ℤ l.lits) l.hints in
    subst F (sym (c.new_learned.ensures ∙ ap made known.form)) (learned_follows c.args.trail.now c.args.marks.now known.others c.args.place known.first live hints known.resolved c.requires.trail refutes)
