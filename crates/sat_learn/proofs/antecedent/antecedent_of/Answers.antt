use Rattle.std.proofs.Common.{◌≡◌, nat_abs, Option, None, ap, sym, ◌∙◌, subst, arith}
use Rattle.std.specs.Option.{IsSome}
use Rattle.std.proofs.lemmas.Option.{slice_get_within}
use Rattle.sat_trail.specs.declared.clause_id.ClauseId.{ClauseId}
use Rattle.sat_learn.proofs.Antecedents.{lit_at}
use Rattle.sat_learn.proofs.MarkedLiterals.{literal_at}
use Rattle.sat_learn.proofs.antecedent.antecedent_of.Goals as goal

pub at-requires : goal.at-requires
at-requires c = slice_get_within c.args.premises.now.trail.assignments c.args.place c.requires.forced.assignment c.requires.forced.stands

pub find_antecedent-requires-clause-in_range : goal.find_antecedent-requires-clause-in_range
find_antecedent-requires-clause-in_range c =
    let t = c.args.premises.now.trail in
    let lt = slice_get_within t.assignments c.args.place c.requires.forced.assignment c.requires.forced.stands in
    let literal = literal_at t c.args.place c.at.result c.requires.explained.trail lt c.at.ensures in
    omega (arith, literal.variable, c.var.ensures.size)

pub unreachable-requires : goal.unreachable-requires
unreachable-requires c =
    let t = c.args.premises.now.trail in
    let forced = c.requires.forced in
    let of_var : nat_abs forced.assignment.lit ≡ c.var.result = ap nat_abs (sym (lit_at t.assignments c.args.place forced.assignment c.at.result forced.stands c.at.ensures)) ∙ sym c.var.ensures.size in
    let none : forced.assignment.reason ≡ None = c.in-None.ensures c.args.place forced.assignment forced.stands of_var in
    let P : Option ClauseId → Type 0 = λ r. IsSome r in
    let some = subst P none forced.forced in
    cc

pub returns : goal.returns
returns c p there =
    let t = c.args.premises.now.trail in
    let of_var : nat_abs p.lit ≡ c.var.result = ap nat_abs (sym (lit_at t.assignments c.args.place p c.at.result there c.at.ensures)) ∙ sym c.var.ensures.size in
    c.in-Some.ensures c.args.place p there of_var
