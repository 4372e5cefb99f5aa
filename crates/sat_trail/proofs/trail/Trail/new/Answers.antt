use Rattle.std.proofs.Common.{◌≡◌, ◌+◌, ◌*◌, length, replicate, arith, rules}
use Rattle.sat_trail.specs.declared.truth.Value.TheVariants.{Unset}
use Rattle.sat_trail.proofs.Representation.{IsKept-new}
use Rattle.sat_trail.proofs.trail.Trail.new.Goals as goal

pub invariant_of-result : goal.invariant_of-result
invariant_of-result c =
    let lits_are : length c.in_ok-lits.lits.items ≡ c.args.vars = omega (arith, c.in_ok-lits.ensures.len) in
    let causes_are : length c.in_ok-causes.causes.items ≡ c.args.vars + 1 = omega (arith, c.in_ok-causes.ensures.len) in
    let ends_are : length c.in_ok-ends.ends.items ≡ c.args.vars = omega (arith, c.in_ok-ends.ensures.len) in
    let values_are : c.in_ok-values.values.items ≡ replicate (2 * c.args.vars + 2) Unset = search rules in
    IsKept-new c.args.vars c.in_ok-causes.causes.items c.in_ok-lits.lits.items c.in_ok-values.values.items c.in_ok-ends.ends.items c.requires lits_are values_are causes_are ends_are
