use Rattle.std.proofs.Common.{arith, ap, ◌∙◌, Some, ◌∷◌}
use Rattle.atomic_table.specs.Table.{rest}
use Rattle.seed_pool.proofs.Steps.{marks_full_allowed}
use Rattle.seed_pool.proofs.cells.fill.Goals as goal

pub store-requires : goal.store-requires
store-requires g c = let e = c.exchange.ensures.3 in (
  c.exchange.ensures.0 ∙ c.requires.seat.0,
  omega (arith, c.requires.claim.2, c.requires.table),
  marks_full_allowed g.S.OfCircuit.circuit c.args.table.now.shared.key _ _ c.args.cell c.exchange.new.seat.me c.args.seed (omega (arith, ap (λ m. m.0.parts) e, c.requires.seat.1)) (ap (λ m. m.0.claim) e ∙ c.requires.claim.0)
      (ap (λ m. m.1) e ∙ ap (λ l. (c.args.cell, Some c.args.seed) ∷ rest l) c.requires.claim.1) c.requires.claim.2 c.requires.seed,
)
