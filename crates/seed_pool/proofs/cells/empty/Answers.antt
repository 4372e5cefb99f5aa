use Rattle.std.proofs.Common.{arith, ap, ◌∙◌, sym, Some, None, ◌∷◌}
use Rattle.atomic_table.specs.Table.{rest}
use Rattle.seed_pool.proofs.Steps.{marks_free_allowed}
use Rattle.seed_pool.proofs.cells.empty.Goals as goal

pub exchange-requires : goal.exchange-requires
exchange-requires g c = let r = c.requires.claim in (c.requires.seat.0, (Some r.0, r.2 ∙ ap (λ l. (c.args.cell, Some r.0) ∷ l) (sym (ap rest r.2))))

pub store-requires : goal.store-requires
store-requires g c = let e = c.exchange.ensures.3 in let r = c.requires.claim in (
  c.exchange.ensures.0 ∙ c.requires.seat.0,
  omega (arith, r.3, c.requires.table),
  marks_free_allowed g.S.OfCircuit.circuit c.args.table.now.shared.key _ _ c.args.cell c.exchange.new.seat.me r.0 (omega (arith, ap (λ m. m.0.parts) e, c.requires.seat.1)) (ap (λ m. m.0.claim) e ∙ r.1)
      (ap (λ m. m.1) e ∙ ap (λ l. (c.args.cell, None) ∷ rest l) r.2) r.3,
)
