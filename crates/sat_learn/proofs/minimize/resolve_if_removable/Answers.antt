use Rattle.std.proofs.Common.{neg_ℤ, arith}
use Rattle.cnf_base.proofs.Literals.{nat_abs-neg_ℤ}
use Rattle.sat_learn.proofs.Assignments.{true_literal}
use Rattle.sat_learn.proofs.minimize.resolve_if_removable.Goals as goal

pub slice_copy_out-found : goal.slice_copy_out-found
slice_copy_out-found c =
    let literal = true_literal c.args.premises.now.trail (neg_ℤ c.args.lit) c.requires.explained.trail c.requires.false_now in
    omega (arith, literal.variable, nat_abs-neg_ℤ c.args.lit, c.var-index.ensures.size, c.requires.room)

pub bounds-visits-index : goal.bounds-visits-index
bounds-visits-index c =
    let literal = true_literal c.args.premises.now.trail (neg_ℤ c.args.lit) c.requires.explained.trail c.requires.false_now in
    omega (arith, literal.variable, nat_abs-neg_ℤ c.args.lit, c.var-index.ensures.size, c.requires.room)

pub bounds-marks-index : goal.bounds-marks-index
bounds-marks-index c =
    let literal = true_literal c.args.premises.now.trail (neg_ℤ c.args.lit) c.requires.explained.trail c.requires.false_now in
    omega (arith, literal.variable, nat_abs-neg_ℤ c.args.lit, c.var-index.ensures.size, c.requires.tracked.room)
