use Rattle.std.proofs.Common.{arith}
use Rattle.lrat_check.proofs.FormulaIds.{numbered_more}
use Rattle.lrat_check.proofs.checker.store_of.Goals as goal

pub loop-place-preserved : goal.loop-place-preserved
loop-place-preserved c =
    numbered_more c.loop-place.store c.push.new.self c.as_slice-clause-items.result.now c.loop-place.place c.clause-item.result c.as_slice.result.now
    (omega arith) c.clause-item.is c.as_slice.ensures c.loop-place.invariant c.in_ok-push.ensures.ok
