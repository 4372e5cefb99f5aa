use Rattle.std.proofs.Common.{◌≡◌, ◌<◌, length, nat_abs, [], ◌∷◌, ◌++◌, ap, ◌∙◌, arith, rules}
use mir.Val.{SFits}
use mir.Syntax.{w64}
use Rattle.std.proofs.lemmas.Int.{to_z-of_z}
use Rattle.std.proofs.lemmas.Option.{slice_get_within}
use Rattle.sat_learn.proofs.Antecedents.{lit_at}
use Rattle.sat_learn.proofs.MarkedLiterals.{literal_at}
use Rattle.sat_learn.proofs.ResolveStep.{forced_at_root}
use Rattle.sat_learn.proofs.Steps.{IsStep, step_false, step_clears, step_differs, step_resolves}
use Rattle.sat_learn.proofs.RootQueues.{queued_unmarked}
use Rattle.sat_learn.proofs.roots.resolve_root.Goals as goal

pub antecedent_of-found-requires-clause-forced : goal.antecedent_of-found-requires-clause-forced
antecedent_of-found-requires-clause-forced c =
    let root = c.requires.root in
    forced_at_root c.args.premises.now.trail c.args.place root.assignment c.requires.explained.trail root.stands root.root

pub meet_all-requires-clause-false_now : goal.meet_all-requires-clause-false_now
meet_all-requires-clause-false_now c l inside =
    let root = c.requires.root in
    let found = c.antecedent_of-found.result in
    step_false c.args.premises.now c.args.place root.assignment found.lits.now found.hint c.args.marks.now l c.requires.explained.trail root.stands (c.antecedent_of-found.ensures root.assignment root.stands) root.marked inside

pub at-requires : goal.at-requires
at-requires c = slice_get_within c.args.premises.now.trail.assignments c.args.place c.requires.root.assignment c.requires.root.stands

pub bounds-marks-var : goal.bounds-marks-var
bounds-marks-var c =
    let t = c.args.premises.now.trail in
    let lt = slice_get_within t.assignments c.args.place c.requires.root.assignment c.requires.root.stands in
    let literal = literal_at t c.args.place c.at.result c.requires.explained.trail lt c.at.ensures in
    omega (arith, literal.variable, c.var.ensures.size, c.requires.room, c.meet_all.auto.marks)

-- what is known of the literal and its antecedent
step : (c : goal.After-var) → IsStep c.args.premises.now c.args.place c.requires.root.assignment c.var.result c.antecedent_of-found.result.lits.now c.antecedent_of-found.result.hint c.args.marks.now c.meet_all.new.marks
step c =
    let t = c.args.premises.now.trail in
    let root = c.requires.root in
    let lt = slice_get_within t.assignments c.args.place root.assignment root.stands in
    let literal = literal_at t c.args.place c.at.result c.requires.explained.trail lt c.at.ensures in
    let var_is : c.var.result ≡ nat_abs root.assignment.lit = c.var.ensures.size ∙ ap nat_abs (lit_at t.assignments c.args.place root.assignment c.at.result root.stands c.at.ensures) in
    record {
      trail = c.requires.explained.trail;
      stands = root.stands;
      of_var = var_is;
      known = c.antecedent_of-found.ensures root.assignment root.stands;
      room = omega (arith, literal.variable, c.var.ensures.size, c.requires.room, c.meet_all.auto.marks);
      noted = c.in_ok-meet_all.ensures.marks;
    }

pub returns-clause-clear : goal.returns-clause-clear
returns-clause-clear c =
    let found = c.antecedent_of-found.result in
    step_clears c.args.premises.now c.args.place c.requires.root.assignment c.var.result found.lits.now found.hint c.args.marks.now c.meet_all.new.marks (step c) c.requires.clear

pub returns-clause-queued : goal.returns-clause-queued
returns-clause-queued c =
    let known = step c in
    let room : c.var.result < length c.meet_all.new.marks = omega (arith, known.of_var, known.room) in
    queued_unmarked c.args.premises.now.trail.assignments c.meet_all.new.marks c.meet_all.new.queue c.var.result c.args.place room (c.in_ok-meet_all.ensures.queued c.args.place c.requires.queued)

pub returns-clause-others : goal.returns-clause-others
returns-clause-others c =
    let found = c.antecedent_of-found.result in
    step_differs c.args.premises.now c.args.place c.requires.root.assignment c.var.result found.lits.now found.hint c.args.marks.now c.meet_all.new.marks (step c) c.requires.root.root

pub returns-clause-resolves : goal.returns-clause-resolves
returns-clause-resolves c =
    let found = c.antecedent_of-found.result in
    let old_hints = c.args.hints.now.items in
    let fits : SFits w64 found.hint = search rules in
    let pushed : c.push.new.self.items ≡ old_hints ++ found.hint ∷ [] = c.in_ok-push.ensures.items ∙ ap (λ z. old_hints ++ z ∷ []) (to_z-of_z w64 found.hint fits) in
    step_resolves c.args.premises.now c.args.place c.requires.root.assignment c.var.result found.lits.now found.hint c.args.marks.now c.meet_all.new.marks old_hints c.push.new.self.items (step c) pushed
