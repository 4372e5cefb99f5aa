use Rattle.std.proofs.Common.{◌≡◌, [], ◌∷◌, ◌++◌, List, ℤ, reverse, ap, sym, ◌∙◌, subst}
use mir.Syntax.{w64}
use Rattle.std.proofs.lemmas.Int.{to_z-of_z}
use Rattle.sat_learn.specs.Reasons.{Follows}
use Rattle.sat_learn.proofs.Conflicts.{conflict_in_range, conflict_marked, conflict_among, none_marked_at_root, conflict_refutes, refutes_nothing}
use Rattle.sat_learn.proofs.resolution.refute_marked.Goals as goal

pub mark_all-requires : goal.mark_all-requires
mark_all-requires c = conflict_in_range c.args.premises.now.trail c.args.marks.now c.args.conflict.now c.requires.explained.trail c.requires.room c.requires.false_now

pub resolve_roots-requires-clause-met : goal.resolve_roots-requires-clause-met
resolve_roots-requires-clause-met c = conflict_among c.args.premises.now.trail c.args.marks.now c.mark_all.new.marks c.args.conflict.now c.requires.unmarked c.mark_all.ensures c.requires.false_now

pub returns-clause-unmarked : goal.returns-clause-unmarked
returns-clause-unmarked c = none_marked_at_root c.args.premises.now.trail c.args.marks.now c.mark_all.new.marks c.resolve_roots.new.marks c.args.conflict.now c.requires.explained.trail c.requires.at_root c.requires.unmarked c.mark_all.ensures c.requires.false_now c.in_ok-resolve_roots.ensures.clear c.in_ok-resolve_roots.ensures.others

pub returns-clause-follows : goal.returns-clause-follows
returns-clause-follows c live id hint_is has_id conflict_with_id =
    let t = c.args.premises.now.trail in
    let hints = c.push.new.self.items in
    let pushed : hints ≡ [] ++ c.args.hint ∷ [] = c.in_ok-push.ensures.items ∙ ap (λ z. c.new-hints.result.items ++ z ∷ []) (to_z-of_z w64 c.args.hint c.ranges.hint) ∙ ap (λ xs. xs ++ c.args.hint ∷ []) c.new-hints.ensures.items in
    let marked = conflict_marked c.args.marks.now c.mark_all.new.marks c.args.conflict.now c.mark_all.ensures in
    let begun = conflict_refutes t live c.args.conflict.now id c.args.hint c.mark_all.new.marks hints c.requires.explained.trail c.requires.false_now conflict_with_id hint_is pushed marked in
    let none = none_marked_at_root t c.args.marks.now c.mark_all.new.marks c.resolve_roots.new.marks c.args.conflict.now c.requires.explained.trail c.requires.at_root c.requires.unmarked c.mark_all.ensures c.requires.false_now c.in_ok-resolve_roots.ensures.clear c.in_ok-resolve_roots.ensures.others in
    let P : List ℤ → Type 0 = λ hs. Follows live [] hs in
    subst P (sym c.in_order.ensures) (refutes_nothing t live c.resolve_roots.new.marks (reverse c.resolve_roots.new.hints.items) none (c.in_ok-resolve_roots.ensures.resolves live has_id begun))
