use Rattle.std.proofs.Common.{arith}
use Rattle.seed_pool.proofs.Steps.{joins_allowed}
use Rattle.seed_pool.proofs.table.join.Goals as goal

pub join_seat-requires : goal.join_seat-requires
join_seat-requires g c = (c.requires.seat.0, c.requires.other.0, c.requires.other.1, omega (arith, c.requires.table), joins_allowed g.S.OfCircuit.circuit _ _ _ _ _ c.requires.seat.1 c.requires.other.2)
