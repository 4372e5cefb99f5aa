use Rattle.std.proofs.Common.{◌≡◌, ◌+◌, [], ◌∷◌, ◌++◌, List, ℤ, length, ap, sym, ◌∙◌, subst, arith}
use mir.Syntax.{w64}
use Rattle.std.proofs.lemmas.Int.{to_z-of_z}
use Rattle.sat_learn.specs.Tracking.{IsFirstUip, IsMinimized}
use Rattle.sat_learn.proofs.Tracking.{track_begun}
use Rattle.sat_learn.proofs.Conflicts.{conflict_open, conflict_marked, minimized_from, conflict_refutes}
use Rattle.sat_learn.proofs.resolution.resolve_conflict.Goals as goal

pub note_all-requires-clause-tracked : goal.note_all-requires-clause-tracked
note_all-requires-clause-tracked c =
    let begun = c.new_analysis-analysis.ensures in
    let a = c.new_analysis-analysis.result in
    track_begun c.args.premises.now.trail c.args.marks.now a.kept.items a.root_lits.items a.open_count begun.kept begun.root_lits begun.count c.requires.above c.requires.room c.requires.unmarked

pub resolve-requires-clause-count : goal.resolve-requires-clause-count
resolve-requires-clause-count c =
    let a = c.note_all.new.analysis in
    let marked = conflict_marked c.args.marks.now c.note_all.new.marks c.args.conflict.now c.in_ok-note_all.ensures.marks in
    conflict_open c.args.premises.now.trail c.note_all.new.marks a.kept.items a.root_lits.items a.open_count c.args.conflict.now c.requires.explained.trail c.in_ok-note_all.ensures.tracked marked c.requires.false_now c.requires.not_before

pub conclude-requires-clause-minimized : goal.conclude-requires-clause-minimized
conclude-requires-clause-minimized c =
    let t = c.args.premises.now.trail in
    let a = c.minimize_clause.new.analysis in
    let after = c.resolve_any_roots.new.marks in
    let place = c.in_ok-place.place in
    let last = c.in_ok-place.ensures.last in
    let first_uip : IsFirstUip t c.resolve.new.marks place = record { assignment = last.assignment; stands = last.stands; marked = last.marked; at_level = last.at_level } in
    let room : length after ≡ t.vars + 1 = omega (arith, c.requires.room, c.note_all.auto.marks, c.resolve.auto.marks, c.minimize_clause.auto.marks, c.resolve_any_roots.auto.marks) in
    let P : List ℤ → Type 0 = λ ls. IsMinimized t after ls place in
    subst P (ap (λ v. v.items) (sym c.in_ok-roots.ensures.kept))
    (minimized_from t c.minimize_clause.new.marks after a.kept.items a.root_lits.items a.open_count place c.requires.explained.trail c.in_ok-minimize_clause.ensures.tracked (c.in_ok-minimize_clause.ensures.count ∙ c.in_ok-place.ensures.count) (c.in_ok-minimize_clause.ensures.first_uip place first_uip) c.in_ok-roots.ensures.clear c.in_ok-roots.ensures.others room)

pub returns-clause-follows : goal.returns-clause-follows
returns-clause-follows c live id hint_is has_id conflict_with_id =
    let t = c.args.premises.now.trail in
    let hints = c.note_all.new.analysis.hints.items in
    let pushed : hints ≡ [] ++ c.args.hint ∷ [] =
    ap (λ v. v.items) c.in_ok-note_all.ensures.hints ∙ c.in_ok-push.ensures.items
    ∙ ap (λ z. c.new_analysis-analysis.result.hints.items ++ z ∷ []) (to_z-of_z w64 c.args.hint c.ranges.hint) ∙ ap (λ xs. xs ++ c.args.hint ∷ []) c.new_analysis-analysis.ensures.hints in
    let marked = conflict_marked c.args.marks.now c.note_all.new.marks c.args.conflict.now c.in_ok-note_all.ensures.marks in
    let begun = conflict_refutes t live c.args.conflict.now id c.args.hint c.note_all.new.marks hints c.requires.explained.trail c.requires.false_now conflict_with_id hint_is pushed marked in
    let present = c.in_ok-place.ensures.resolves live has_id begun in
    let minimized = c.in_ok-minimize_clause.ensures.resolves live has_id present in
    let roots = c.in_ok-roots.ensures.resolves live has_id minimized in
    c.in_ok-learned.ensures.follows live roots
