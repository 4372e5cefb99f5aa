use Rattle.std.proofs.Common.{◌≤◌, ℤ, nat_abs, sym, subst, arith}
use Rattle.sat_solver.proofs.restart.count_levels.Goals as goal

pub level_of-level-requires-clause-in_range : goal.level_of-level-requires-clause-in_range
level_of-level-requires-clause-in_range c =
    let lit = c.lit-item.result in
    let vars = c.args.trail.now.vars in
    let P : ℤ → Type 0 = λ l. nat_abs l ≤ vars in
    let within : nat_abs lit ≤ vars = subst P (sym c.lit-item.is) (c.requires c.loop-lit.lit-index lit c.loop-lit-test.true).variable in
    omega (arith, c.var.ensures.size)
