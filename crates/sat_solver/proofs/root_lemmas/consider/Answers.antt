use Rattle.std.proofs.Common.{ℤ, Option, Some, List, ap, sym, ◌∙◌, subst, arith}
use Rattle.std.specs.Option.{IfSome}
use Rattle.sat_trail.specs.declared.clause_id.ClauseId.TheVariants as ids
use Rattle.sat_learn.specs.Premises.{IsExplanationIn}
use Rattle.sat_learn.proofs.MarkedLiterals.{literal_at}
use Rattle.sat_solver.specs.Ledger.{live}
use Rattle.sat_solver.proofs.Roots.{root_within, root_lit, root_read}
use Rattle.sat_solver.proofs.root_lemmas.consider.Goals as goal

pub at-lit-requires : goal.at-lit-requires
at-lit-requires c = root_within c.args.search.now.premises.trail c.args.place c.is_well_formed.ensures c.requires.at_root

pub reason_of-requires-clause-in_range : goal.reason_of-requires-clause-in_range
reason_of-requires-clause-in_range c =
    let t = c.args.search.now.premises.trail in
    let within = root_within t c.args.place c.is_well_formed.ensures c.requires.at_root in
    let literal = literal_at t c.args.place c.at-lit.result c.is_well_formed.ensures within c.at-lit.ensures in
    omega (arith, literal.variable, c.var.ensures.size)

pub insert-requires : goal.insert-requires
insert-requires c =
    let t = c.args.search.now.premises.trail in
    let s = c.requires.state.search in
    let within = root_within t c.args.place c.is_well_formed.ensures c.requires.at_root in
    let literal = literal_at t c.args.place c.at-lit.result c.is_well_formed.ensures within c.at-lit.ensures in
    omega (arith, literal.variable, c.var-2.ensures.size, s.considered_vars, s.sound.trail_vars)

pub add_root_lemma-requires-clause-root : goal.add_root_lemma-requires-clause-root
add_root_lemma-requires-clause-root c =
    let place = c.in-Some-Book.field-0-0 in
    let read = sym c.reason_of.ensures ∙ c.in-Some-Book.is ∙ ap Some c.in-Some-Book.field-0-is in
    (place, root_read c.args.search.now.premises.trail c.args.place c.at-lit.result c.var.result (ids.Book place) c.is_well_formed.ensures c.requires.at_root c.at-lit.ensures c.var.ensures.size read)

pub add_root_lemma-requires-clause-follows : goal.add_root_lemma-requires-clause-follows
add_root_lemma-requires-clause-follows c =
    let search = c.args.search.now in
    let t = search.premises.trail in
    let lit = c.at-lit.result in
    let pairs = live c.args.formula.now search.steps in
    let F : Option (List ℤ) → Type 0 = λ found. IfSome found (IsExplanationIn search.premises c.args.place) in
    subst F c.in-Some.is c.in_ok-explained.ensures.follows pairs lit c.requires.state.search.sound.has_id (root_lit t c.args.place lit c.is_well_formed.ensures c.requires.at_root c.at-lit.ensures)
