use Rattle.std.proofs.Common.{ap, ◌∙◌}
use Rattle.seed_pool.proofs.Misses.{missed_more}
use Rattle.seed_pool.proofs.pool.SeedPool.put.Goals as goal

pub put_at-requires-clause-seat : goal.put_at-requires-clause-seat
put_at-requires-clause-seat g c = let i = c.loop-cell.invariant in record { table = i.table ∙ c.requires.seat.table; circuit = i.circuit ∙ c.requires.seat.circuit }

pub put_at-requires-clause-seed : goal.put_at-requires-clause-seed
put_at-requires-clause-seed g c = ap g.S.OfCircuit.circuit c.loop-cell.invariant.same ∙ c.requires.seed

pub loop-cell-preserved : goal.loop-cell-preserved
loop-cell-preserved g c =
    let i = c.loop-cell.invariant in let r = c.in-Err.ensures.err in
    record {
      table = c.put_at.ensures.same.0 ∙ i.table;
      circuit = c.put_at.ensures.same.1 ∙ i.circuit;
      same = r.0 ∙ i.same;
      put = r.1 ∙ i.put;
      taken = c.put_at.ensures.taken ∙ i.taken;
      tried = missed_more 0 c.loop-cell.cell r.2.0 _ _ _ i.tried r.2.1 r.2.2;
    }
