use Rattle.std.proofs.Common.{arith}
use Rattle.seed_pool.proofs.Steps.{claims_put_allowed}
use Rattle.seed_pool.proofs.cells.claim_put.Goals as goal

pub compare_exchange-requires : goal.compare_exchange-requires
compare_exchange-requires g c =
    (c.requires.seat.0, omega (arith, c.requires.cell, c.requires.table), claims_put_allowed g.S.OfCircuit.circuit c.args.table.now.shared.key _ _ _ c.args.seat.now.me c.requires.seat.1 c.requires.seat.2 c.requires.cell)
