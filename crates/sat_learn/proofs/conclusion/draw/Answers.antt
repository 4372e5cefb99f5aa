use Rattle.std.proofs.Common.{◌≡◌, false, cond, eqb, neg_ℤ, nat_abs, map, get_or, refl, ap, ◌∙◌, arith}
use Rattle.std.specs.List.{list_any}
use Rattle.std.proofs.lemmas.Option.{slice_get_within}
use Rattle.cnf_base.proofs.Literals.{nat_abs-neg_ℤ}
use Rattle.sat_learn.proofs.Assignments.{true_by}
use Rattle.sat_learn.proofs.Antecedents.{lit_at}
use Rattle.sat_learn.proofs.MarkedLiterals.{literal_at, has_at, false_in_range}
use Rattle.sat_learn.proofs.Taken.{resolved_from}
use Rattle.sat_learn.proofs.conclusion.draw.Goals as goal

pub at-requires : goal.at-requires
at-requires c = slice_get_within c.args.trail.now.assignments c.args.place c.requires.minimized.first_uip.assignment c.requires.minimized.first_uip.stands

pub negation-first-requires : goal.negation-first-requires
negation-first-requires c =
    let t = c.args.trail.now in
    let lt = slice_get_within t.assignments c.args.place c.requires.minimized.first_uip.assignment c.requires.minimized.first_uip.stands in
    let literal = literal_at t c.args.place c.at.result c.requires.trail lt c.at.ensures in
    omega (arith, literal.variable, c.requires.trail.few_vars)

pub take_marked-requires-clause-first : goal.take_marked-requires-clause-first
take_marked-requires-clause-first c =
    let t = c.args.trail.now in
    let lt = slice_get_within t.assignments c.args.place c.requires.minimized.first_uip.assignment c.requires.minimized.first_uip.stands in
    let literal = literal_at t c.args.place c.at.result c.requires.trail lt c.at.ensures in
    let same : nat_abs c.negation-first.result ≡ nat_abs c.at.result = ap nat_abs c.negation-first.ensures ∙ nat_abs-neg_ℤ c.at.result in
    omega (arith, literal.variable, c.requires.minimized.room)

pub take_marked-requires-clause-kept : goal.take_marked-requires-clause-kept
take_marked-requires-clause-kept c k d lt =
    let t = c.args.trail.now in
    let l = get_or c.args.kept.now k d in
    let x = c.requires.minimized.between l (has_at c.args.kept.now k l d lt refl) in
    false_in_range t c.args.marks.now l c.requires.trail c.requires.minimized.room (true_by t l x.level x.false_at)

pub returns : goal.returns
returns c =
    let t = c.args.trail.now in
    let marks = c.args.marks.now in
    let h = c.requires.minimized in
    let taken = c.in_ok-drawn.ensures in
    let first_is = c.negation-first.ensures ∙ ap neg_ℤ (lit_at t.assignments c.args.place h.first_uip.assignment c.at.result h.first_uip.stands c.at.ensures) in
    record {
      first = c.negation-first.result;
      others = taken.others;
      form = taken.form;
      resolved = resolved_from t marks c.take_marked.new.marks c.args.kept.now c.args.place c.negation-first.result c.in_ok-drawn.drawn.items h taken first_is;
      unmarked = λ v. taken.unmarked v ∙ ap (λ ls. cond (list_any (eqb v) (map nat_abs ls)) false (get_or marks v false)) taken.form;
    }
