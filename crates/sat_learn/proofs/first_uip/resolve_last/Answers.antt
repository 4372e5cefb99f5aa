use Rattle.std.proofs.Common.{◌≡◌, ℕ, ◌-◌, ◌<◌, true, false, eqb, nat_abs, [], ◌∷◌, ◌++◌, map, set, get_or, ap, sym, ◌∙◌, subst, arith, rules}
use mir.Val.{SFits}
use mir.Syntax.{w64}
use Rattle.std.specs.List.{list_any, count_by}
use Rattle.std.proofs.lemmas.Bool.{or_left}
use Rattle.std.proofs.lemmas.Int.{to_z-of_z}
use Rattle.std.proofs.lemmas.Option.{slice_get_within}
use Rattle.sat_learn.specs.Resolving.{is_marked}
use Rattle.sat_learn.specs.Tracking.{is_open, IsTracked}
use Rattle.sat_learn.proofs.Antecedents.{lit_at}
use Rattle.sat_learn.proofs.MarkedLiterals.{literal_at}
use Rattle.sat_learn.proofs.Tracking.{track_unmark}
use Rattle.sat_learn.proofs.ResolveStep.{forced_at_last}
use Rattle.sat_learn.proofs.Steps.{IsStep, step_false, step_below, step_resolves}
use Rattle.sat_learn.proofs.first_uip.resolve_last.Goals as goal

pub antecedent_of-found-requires-clause-forced : goal.antecedent_of-found-requires-clause-forced
antecedent_of-found-requires-clause-forced c =
    let t = c.args.premises.now.trail in
    let more : 1 < count_by (is_open t.level c.args.marks.now) t.assignments = omega (arith, c.requires.tracked.number, c.requires.count) in
    forced_at_last t c.args.marks.now c.args.place c.requires.explained.trail c.requires.last more

pub note_all-requires-clause-false_now : goal.note_all-requires-clause-false_now
note_all-requires-clause-false_now c l inside =
    let last = c.requires.last in
    let found = c.antecedent_of-found.result in
    step_false c.args.premises.now c.args.place last.assignment found.lits.now found.hint c.args.marks.now l c.requires.explained.trail last.stands (c.antecedent_of-found.ensures last.assignment last.stands) last.marked inside

pub at-requires : goal.at-requires
at-requires c = slice_get_within c.args.premises.now.trail.assignments c.args.place c.requires.last.assignment c.requires.last.stands

pub bounds-marks-var : goal.bounds-marks-var
bounds-marks-var c =
    let t = c.args.premises.now.trail in
    let lt = slice_get_within t.assignments c.args.place c.requires.last.assignment c.requires.last.stands in
    let literal = literal_at t c.args.place c.at.result c.requires.explained.trail lt c.at.ensures in
    omega (arith, literal.variable, c.var.ensures.size, c.requires.tracked.room, c.note_all.auto.marks)

-- what is known of the last marked literal and its antecedent
step : (c : goal.After-var) → IsStep c.args.premises.now c.args.place c.requires.last.assignment c.var.result c.antecedent_of-found.result.lits.now c.antecedent_of-found.result.hint c.args.marks.now c.note_all.new.marks
step c =
    let t = c.args.premises.now.trail in
    let last = c.requires.last in
    let lt = slice_get_within t.assignments c.args.place last.assignment last.stands in
    let literal = literal_at t c.args.place c.at.result c.requires.explained.trail lt c.at.ensures in
    let var_is : c.var.result ≡ nat_abs last.assignment.lit = c.var.ensures.size ∙ ap nat_abs (lit_at t.assignments c.args.place last.assignment c.at.result last.stands c.at.ensures) in
    record {
      trail = c.requires.explained.trail;
      stands = last.stands;
      of_var = var_is;
      known = c.antecedent_of-found.ensures last.assignment last.stands;
      room = omega (arith, literal.variable, c.var.ensures.size, c.requires.tracked.room, c.note_all.auto.marks);
      noted = c.in_ok-note_all.ensures.marks;
    }

pub returns-clause-tracked : goal.returns-clause-tracked
returns-clause-tracked c =
    let t = c.args.premises.now.trail in
    let last = c.requires.last in
    let known = step c in
    let mid = c.note_all.new.marks in
    let after = c.note_all.new.analysis in
    let marked : is_marked mid last.assignment.lit ≡ true = known.noted (nat_abs last.assignment.lit) ∙ or_left (get_or c.args.marks.now (nat_abs last.assignment.lit) false) (list_any (eqb (nat_abs last.assignment.lit)) (map nat_abs c.antecedent_of-found.result.lits.now)) last.marked in
    let P : ℕ → Type 0 = λ v. IsTracked t (set mid v false) after.kept.items after.root_lits.items (after.open_count - 1) in
    subst P (sym known.of_var) (track_unmark t mid after.kept.items after.root_lits.items after.open_count c.args.place last.assignment known.trail c.in_ok-note_all.ensures.tracked last.stands last.at_level marked known.room)

pub returns-clause-below : goal.returns-clause-below
returns-clause-below c =
    let found = c.antecedent_of-found.result in
    step_below c.args.premises.now c.args.place c.requires.last.assignment c.var.result found.lits.now found.hint c.args.marks.now c.note_all.new.marks (step c) c.requires.last.below

pub returns-clause-resolves : goal.returns-clause-resolves
returns-clause-resolves c =
    let found = c.antecedent_of-found.result in
    let old_hints = c.args.analysis.now.hints.items in
    let new_hints = c.note_all.new.analysis.hints.items in
    let fits : SFits w64 found.hint = search rules in
    let pushed : new_hints ≡ old_hints ++ found.hint ∷ [] = ap (λ v. v.items) c.in_ok-note_all.ensures.hints ∙ c.in_ok-push.ensures.items ∙ ap (λ z. old_hints ++ z ∷ []) (to_z-of_z w64 found.hint fits) in
    step_resolves c.args.premises.now c.args.place c.requires.last.assignment c.var.result found.lits.now found.hint c.args.marks.now c.note_all.new.marks old_hints new_hints (step c) pushed
