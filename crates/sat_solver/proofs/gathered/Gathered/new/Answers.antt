use Rattle.std.proofs.Common.{◌≡◌, ◌+◌, ◌*◌, false, replicate, rules}
use Rattle.sat_solver.proofs.GatheredLiterals.{gathered_none}
use Rattle.sat_solver.proofs.gathered.Gathered.new.Goals as goal

pub returns-clause-gathered : goal.returns-clause-gathered
returns-clause-gathered c =
    let marks_are : c.in_ok-vec.field-0.items ≡ replicate (2 * c.args.vars + 2) false = search rules in
    gathered_none c.args.vars c.in_ok-vec.field-0.items c.new.result.items c.requires marks_are c.new.ensures.items
