use Rattle.std.proofs.Common.{ap, sym, ◌∙◌, ◌+◌, subst, All}
use Rattle.seed_pool.specs.Lists.{total}
use Rattle.seed_pool.specs.Rule.{Of}
use Rattle.seed_pool.proofs.Ends.{ends}
use Rattle.seed_pool.proofs.table.close.Goals as goal

pub returns-clause-balance : goal.returns-clause-balance
returns-clause-balance g c = λ f. let fin = c.close_with.ensures.values.2 in let s = fin.0 in
    let e = ends g.S.OfCircuit.circuit c.args.table.shared.key s.words s.homes s.views _ _ _ fin.1.0 fin.1.1 c.requires.seat.1 c.requires.seat.2 fin.3 fin.4 in
    e.0 f ∙ ap (λ l. total f c.args.seat.me.0.taken + total f l) (sym c.drained.ensures)

pub returns-clause-circuit : goal.returns-clause-circuit
returns-clause-circuit g c = let fin = c.close_with.ensures.values.2 in let s = fin.0 in
    let e = ends g.S.OfCircuit.circuit c.args.table.shared.key s.words s.homes s.views _ _ _ fin.1.0 fin.1.1 c.requires.seat.1 c.requires.seat.2 fin.3 fin.4 in
    subst (All (Of g.S.OfCircuit.circuit c.args.table.shared.key)) (sym c.drained.ensures) e.1
