use Rattle.std.proofs.Common.{arith}
use Rattle.seed_pool.proofs.Steps.{splits_allowed}
use Rattle.seed_pool.proofs.table.cut.Goals as goal

pub split_seat-requires : goal.split_seat-requires
split_seat-requires g c = (c.requires.seat, omega (arith, c.requires.table), splits_allowed g.S.OfCircuit.circuit _ _ _ c.requires.parts)
