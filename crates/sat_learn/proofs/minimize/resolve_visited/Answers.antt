use Rattle.std.proofs.Common.{◌-◌, ◌<◌, length, arith}
use Rattle.sat_learn.proofs.MarkedLiterals.{has_at}
use Rattle.sat_learn.proofs.minimize.resolve_visited.Goals as goal

pub resolve_if_removable-requires-clause-false_now : goal.resolve_if_removable-requires-clause-false_now
resolve_if_removable-requires-clause-false_now c =
    let lit = c.index-visited-index.result in
    let lt : c.loop-index.index - 1 < length c.args.visited.now = omega (arith, c.loop-index-test.true, c.loop-index.invariant.within) in
    c.requires.false_now lit (has_at c.args.visited.now (c.loop-index.index - 1) lit lit lt c.index-visited-index.is)
