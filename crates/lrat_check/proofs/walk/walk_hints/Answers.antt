use Rattle.std.proofs.Common.{sym}
use Rattle.cnf_base.proofs.Status.{unit_says}
use Rattle.lrat_check.proofs.walk.walk_hints.Goals as goal

pub assume-requires : goal.assume-requires
assume-requires c = (unit_says c.loop-hint.assumed c.in-Some-clause.clause.now c.in-Unit.lit (sym c.in-Unit.ensures)).open_here.1
