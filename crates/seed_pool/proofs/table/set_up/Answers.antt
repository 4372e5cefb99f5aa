use Rattle.std.proofs.Common.{rules, arith}
use Rattle.seed_pool.proofs.Ends.{opens}
use Rattle.seed_pool.proofs.table.set_up.Goals as goal

pub vacant-requires : goal.vacant-requires
vacant-requires g c = opens g.S.OfCircuit.circuit _ _ (search rules) (omega (arith, c.from.ensures, c.requires))
