use Rattle.std.proofs.Common.{arith}
use Rattle.lrat_check.specs.Assumptions.{sign_at}
use Rattle.lrat_check.proofs.AssumedSigns.{Covers-less}
use Rattle.lrat_check.proofs.assumed.take_back.Goals as goal

pub loop-assumption-preserved : goal.loop-assumption-preserved
loop-assumption-preserved c =
    Covers-less c.args.trail.now c.loop-assumption.assumption-index c.var.result c.assumption-item.result c.assumption-item.result (sign_at c.loop-assumption.signs) (sign_at c.unset.new.self)
    (omega arith) c.assumption-item.is c.var.ensures c.loop-assumption.invariant c.unset.ensures
