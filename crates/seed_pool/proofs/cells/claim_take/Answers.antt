use Rattle.std.proofs.Common.{arith, ◌∙◌}
use Rattle.seed_pool.proofs.Steps.{claims_take_allowed}
use Rattle.seed_pool.proofs.cells.claim_take.Goals as goal

pub compare_exchange-requires : goal.compare_exchange-requires
compare_exchange-requires g c =
    (c.requires.seat.0, omega (arith, c.requires.cell, c.requires.table), claims_take_allowed g.S.OfCircuit.circuit c.args.table.now.shared.key _ _ _ c.args.seat.now.me c.requires.seat.1 c.requires.seat.2 c.requires.cell)

pub returns-clause-won : goal.returns-clause-won
returns-clause-won g c = λ z. let r = c.compare_exchange.ensures.2.0 z in let t = c.requires.terms in (r.0, r.1, r.2 t.0 t.1 ∙ t.2)
