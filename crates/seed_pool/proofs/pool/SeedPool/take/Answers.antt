use Rattle.std.proofs.Common.{◌∙◌}
use Rattle.seed_pool.proofs.Misses.{missed_more}
use Rattle.seed_pool.proofs.pool.SeedPool.take.Goals as goal

pub take_at-requires-clause-seat : goal.take_at-requires-clause-seat
take_at-requires-clause-seat g c = let i = c.loop-cell.invariant in record { table = i.table ∙ c.requires.table; circuit = i.circuit ∙ c.requires.circuit }

pub loop-cell-preserved : goal.loop-cell-preserved
loop-cell-preserved g c =
    let i = c.loop-cell.invariant in let r = c.in_default.ensures.none in
    record {
      table = c.take_at.ensures.same.0 ∙ i.table;
      circuit = c.take_at.ensures.same.1 ∙ i.circuit;
      put = c.take_at.ensures.put ∙ i.put;
      taken = r.0 ∙ i.taken;
      tried = missed_more 2 c.loop-cell.cell r.1.0 _ _ _ i.tried r.1.1 r.1.2;
    }
