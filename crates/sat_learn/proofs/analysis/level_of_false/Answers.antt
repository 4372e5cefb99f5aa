use Rattle.std.proofs.Common.{◌≡◌, neg_ℤ, Some, None, ap, sym, ◌∙◌, arith}
use Rattle.std.specs.Option.{option_map}
use Rattle.cnf_base.proofs.Literals.{nat_abs-neg_ℤ}
use Rattle.sat_trail.specs.Trail.{Assignment}
use Rattle.sat_learn.proofs.Assignments.{assignment_of_false, true_literal}
use Rattle.sat_learn.proofs.analysis.level_of_false.Goals as goal

pub level_of-requires-clause-in_range : goal.level_of-requires-clause-in_range
level_of-requires-clause-in_range c =
    let literal = true_literal c.args.trail.now (neg_ℤ c.args.lit) c.requires.trail c.requires.false_now in
    let within = literal.variable in
    let same = nat_abs-neg_ℤ c.args.lit in
    omega (arith, c.var.ensures.size)

pub unreachable-requires : goal.unreachable-requires
unreachable-requires c =
    let found = assignment_of_false c.args.trail.now c.args.lit c.var.result c.requires.trail c.requires.false_now c.var.ensures.size in
    let some : None ≡ Some found.1.level = sym c.in-None.is ∙ c.level_of.ensures ∙ ap (option_map (λ (p : Assignment). p.level)) found.4 in
    cc

pub returns : goal.returns
returns c =
    let found = assignment_of_false c.args.trail.now c.args.lit c.var.result c.requires.trail c.requires.false_now c.var.ensures.size in
    let some : Some c.in-Some.level ≡ Some found.1.level = sym c.in-Some.is ∙ c.level_of.ensures ∙ ap (option_map (λ (p : Assignment). p.level)) found.4 in
    let level_is : found.1.level ≡ c.in-Some.level = cc in
    record { assignment = found.1; place = found.0; stands = found.2; negated = found.3; at_level = level_is }
